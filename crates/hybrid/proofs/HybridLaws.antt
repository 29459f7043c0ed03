-- Hybrid is sound, so its run finds the hits; and its tests and word steps are bounded. Assumes nothing.
use mathlib.Core.Path.{◌≡◌, refl, sym}
use mathlib.Core.Bool.{Bool, true, false}
use mathlib.Core.List.{List, []}
use mathlib.Core.Logic.{⊎_elim}
use Prim.Native.Nat.{ℕ, suc, ◌+◌, ◌-◌, ◌*◌, ◌≤◌, ◌<◌}
use native.Mathlib.Nat.{eq-or-lt_of_le}
use native.Mathlib.Omega.{arith}
use borrow.Author.Tests.{leb-true, leb-false}
use lib.Dec.{leb}
use lib.ListN.{length, get_or}
use Rattle.letters.specs.Letters.{meets}
use Rattle.letters.proofs.Truth.{bool_cases}
use Rattle.hits.specs.Hits.{within, hits, hits_from}
use Rattle.hits.specs.Turns.{Turn, Run, idle}
use Rattle.hits.proofs.HitLaws.{no_hit, none_from}
use Rattle.hits.proofs.RunLaws.{Sound, finds_all, bounded, Passing, by_start, no_start}
use Rattle.word.proofs.WordLaws.{zero_means}
use Rattle.hybrid.specs.Stretches.{stretch}
use Rattle.sunday.specs.Sunday.{next_start}
use Rattle.sunday.proofs.SundayLaws.{next_gt, next_le, next_passes}
use Rattle.hybrid.specs.Hybrid.{stretched, shifted, hybrid_turn, hybrid_run}
use Rattle.hybrid.proofs.StretchLaws.{waiting, fine, some_step}

module _ (P T : List ℕ) where
  -- the test of the last letter at start a
  abbrev pub last_meets : ℕ → Bool
  last_meets a = meets (get_or P (length P - 1) 0) (get_or T (a + length P - 1) 0)

  pub turn_yes : (a : ℕ) → last_meets a ≡ true → hybrid_turn P T a ≡ stretched (stretch P T (length T - a) a 0)
  unfolding hybrid_turn
  turn_yes a y = rw y

  pub turn_no : (a : ℕ) → last_meets a ≡ false → hybrid_turn P T a ≡ shifted (next_start P T a)
  unfolding hybrid_turn
  turn_no a n = rw n

  -- a start that Sunday's shift passes is no hit
  module _ (a : ℕ) (l : a + length P ≤ length T) where
    shift_right : 0 < length P → last_meets a ≡ false → hits_from P T (next_start P T a - a) a ≡ []
    shift_right p n =
        let z : a + length P - 1 ≡ a + (length P - 1) = omega arith in
        let f : meets (get_or P (length P - 1) 0) (get_or T (a + (length P - 1)) 0) ≡ false = rw z at n in
        none_from P T (next_start P T a - a) a
        (λ i u v. ⊎_elim (λ (q : a ≡ i). rw (← q) (no_hit P T a (length P - 1) (omega arith) f)) (λ (q : a < i). next_passes P T a l i q (omega (arith, next_gt P T a l))) (eq-or-lt_of_le u))

  -- what a turn at start a does: it goes on, at most to one past the text, and finds the hits that it passes; it makes one scan test, no shift test, and at most a word step for each position that it moves on
  pub record Turning (a : ℕ) (t : Turn ℕ) : Type 0 where
    pub on : a < t.next
    pub near : t.next ≤ length T + 1
    pub finds : t.found ≡ hits_from P T (t.next - a) a
    pub tested : t.scan ≡ 1
    pub untried : t.shift ≡ 0
    pub pays : t.steps + (length T - t.next) ≤ length T - a

  module _ (p : 0 < length P) where
    pub turning : (a : ℕ) → a + length P ≤ length T → Turning a (hybrid_turn P T a)
    turning a l =
        bool_cases (last_meets a)
        (λ y. let w = fine P T a p (length T - a) a 0 (omega arith) (omega arith) (zero_means P T a) in
        let s = some_step P T (length T - a) a 0 (omega arith) in
        let z : waiting P a a ≡ a = omega arith in
        rw (turn_yes a y)
        (record { on = omega (arith, w.ahead); near = omega (arith, w.within); finds = rw z at w.finds; tested = refl; untried = refl; pays = omega (arith, w.ahead, w.within) }))
        (λ n. let g = next_gt P T a l in
        rw (turn_no a n) (record { on = g; near = next_le P T a l; finds = sym (shift_right a l p n); tested = refl; untried = refl; pays = omega arith }))

    -- each turn settles the starts that it passes
    pub passing : Passing P T (hybrid_turn P T)
    passing a l =
        let w = turning a l in
        record { falls = omega arith; still = tt; gap = (hybrid_turn P T a).next - a; moved = omega arith; right = w.finds }

    unfoldable pub sound : Sound P T (within P T) (hybrid_turn P T) (suc (length T)) 0
    sound = by_start passing

    -- the rule's run finds exactly the hits
    pub hybrid_finds : (hybrid_run P T).found ≡ hits P T
    unfolding hybrid_run
    hybrid_finds = finds_all sound

    -- scan tests: at most n - m + 1
    pub hybrid_scan : (hybrid_run P T).scan ≤ length T + 1 - length P
    unfolding hybrid_run sound by_start
    hybrid_scan =
        let h = bounded sound (λ (r : Run). r.scan) (λ (t : Turn ℕ). t.scan) refl (λ t r. refl) (λ (i : ℕ). length T + 1 - (i + length P))
        (λ i o y.
        let l : i + length P ≤ length T = leb-true _ _ y in
        let w = turning i l in
        omega arith)
        in
        omega arith

    -- word steps: at most n
    pub hybrid_steps : (hybrid_run P T).steps ≤ length T
    unfolding hybrid_run sound by_start
    hybrid_steps =
        let h = bounded sound (λ (r : Run). r.steps) (λ (t : Turn ℕ). t.steps) refl (λ t r. refl) (λ (i : ℕ). length T - i) (λ i o y. (turning i (leb-true _ _ y)).pays) in
        omega arith

  -- no work where the pattern is longer than the text
  pub hybrid_idle : length T < length P → hybrid_run P T ≡ idle
  unfolding hybrid_run
  hybrid_idle l = no_start P T (hybrid_turn P T) (suc (length T)) l

  -- both together: at most 2 n - m + 1
  pub hybrid_work : 0 < length P → (hybrid_run P T).scan + (hybrid_run P T).steps ≤ 2 * length T + 1 - length P
  hybrid_work p =
      bool_cases (leb (length P) (length T))
      (λ y. let l : length P ≤ length T = leb-true _ _ y in omega (arith, hybrid_scan p, hybrid_steps p))
      (λ n. rw (hybrid_idle (leb-false _ _ n)) (omega arith))
