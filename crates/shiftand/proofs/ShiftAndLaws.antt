-- ShiftAnd is sound, so its run finds the hits; and it takes n word steps. Assumes nothing.
use mathlib.Core.Path.{◌≡◌, refl, ap, ◌∙◌}
use mathlib.Core.Bool.{Bool, true, false, ◌&&◌, and-false}
use mathlib.Core.List.{List, []}
use Prim.Native.Nat.{ℕ, zero, suc, ◌+◌, ◌-◌, ◌≤◌, ◌<◌}
use native.Mathlib.Nat.{zero-add}
use native.Mathlib.Omega.{arith}
use borrow.Author.Tests.{leb-true, leb-false, le-leb, lt-leb, ltb-true, ltb-false, lt-ltb, le-ltb}
use lib.Dec.{leb, ltb}
use lib.ListN.{length, get_or}
use Rattle.letters.specs.Members.{keep}
use Rattle.letters.proofs.Truth.{bool_cases, and_true_r}
use Rattle.hits.specs.Hits.{hit_at, hits, starts_from}
use Rattle.hits.specs.Turns.{Turn, Run, idle, run}
use Rattle.hits.proofs.RunLaws.{Sound, Fair, run_stop, run_on, finds_all, bounded}
use Rattle.word.specs.State.{Means}
use Rattle.word.specs.Word.{stepped}
use Rattle.word.proofs.WordLaws.{digits, zero_means, stepped_means, top_hit}
use Rattle.shiftand.specs.ShiftAnd.{Reading, shiftand_turn, unread, cleared, shiftand_run}

module _ (P T : List ℕ) where
  unread_left : (s : Reading) → unread P T s ≡ true → s.read < length T
  unread_left s y = ltb-true _ _ (and_true_r (leb (length P) (length T)) (ltb s.read (length T)) y)

  pub is_unread : (s : Reading) → length P ≤ length T → s.read < length T → unread P T s ≡ true
  is_unread s h l = rw (le-leb (length P) (length T) h) (lt-ltb s.read (length T) l)

  pub is_read : (s : Reading) → length T ≤ s.read → unread P T s ≡ false
  is_read s l = rw (le-ltb s.read (length T) l) (and-false (leb (length P) (length T)))

  too_long : (s : Reading) → length T < length P → unread P T s ≡ false
  too_long s l = rw (lt-leb (length P) (length T) l)

  -- the state means what it says of the letters read
  abbrev Ok : Reading → Type 0
  Ok s = Means P T 0 s.read (digits s.word)

  -- the start of the stretch that ends with the next letter
  abbrev settled : Reading → ℕ
  settled s = s.read + 1 - length P

  module _ (p : 0 < length P) where
    turn_found : (s : Reading) → Ok s → s.read < length T
        → (shiftand_turn P T s).found ≡ keep (leb (length P) (s.read + 1) && hit_at P T (settled s)) (settled s) []
    unfolding shiftand_turn
    turn_found s o l =
        ap (λ (b : Bool). keep b (settled s) [])
        (rw (zero-add (length P)) at
        (top_hit P T 0 (s.read + 1) (stepped P (get_or T s.read 0) s.word) (stepped_means P T 0 s.read s.word o (omega arith)) p (omega arith)))

    turn_fair : (s : Reading) → Ok s → s.read < length T → Fair P T (λ (s : Reading). length T - s.read) settled Ok s (shiftand_turn P T s)
    unfolding shiftand_turn starts_from
    turn_fair s o l =
        record {
          falls = omega arith;
          still = stepped_means P T 0 s.read s.word o (omega arith);
          gap = s.read + 2 - length P - settled s;
          moved = omega arith;
          right =
              turn_found s o l
              ∙ bool_cases (leb (length P) (s.read + 1))
              (λ y. let h : length P ≤ s.read + 1 = leb-true _ _ y in
              let z : s.read + 2 - length P - settled s ≡ 1 = omega arith in
              rw (y, z))
              (λ n. let h : s.read + 1 < length P = leb-false _ _ n in
              let z : s.read + 2 - length P - settled s ≡ 0 = omega arith in
              rw (n, z));
        }

    all_read : (s : Reading) → unread P T s ≡ false → length T < settled s + length P
    all_read s n =
        bool_cases (leb (length P) (length T))
        (λ y. let h : length T ≤ s.read = ltb-false _ _ (rw y at n) in omega arith)
        (λ z. let h : length T < length P = leb-false _ _ z in omega arith)

    -- settled are the starts of all stretches that end with a letter read
    pub sound : Sound P T (unread P T) (shiftand_turn P T) (length T) cleared
    sound =
        record {
          left = λ s. length T - s.read;
          settled = settled;
          ok = Ok;
          begins = zero_means P T 0;
          enough = omega arith;
          nothing = omega arith;
          fair = λ s o y. turn_fair s o (unread_left s y);
          ends = λ s o n. all_read s n;
        }

    -- the rule's run finds exactly the hits
    pub shiftand_finds : (shiftand_run P T).found ≡ hits P T
    unfolding shiftand_run
    shiftand_finds = finds_all sound

    -- no tests
    pub shiftand_scan : (shiftand_run P T).scan ≡ 0
    unfolding shiftand_run shiftand_turn
    shiftand_scan =
        let h = bounded sound (λ (r : Run). r.scan) (λ (t : Turn Reading). t.scan) refl (λ t r. refl) (λ s. 0) (λ s o y. omega arith) in
        omega arith

    pub shiftand_shift : (shiftand_run P T).shift ≡ 0
    unfolding shiftand_run shiftand_turn
    shiftand_shift =
        let h = bounded sound (λ (r : Run). r.shift) (λ (t : Turn Reading). t.shift) refl (λ t r. refl) (λ s. 0) (λ s o y. omega arith) in
        omega arith

  -- word steps: n in all when m is at most n
  steps_left : length P ≤ length T → (f : ℕ) (s : Reading) → length T - s.read ≤ f → (run (unread P T) (shiftand_turn P T) f s).steps ≡ length T - s.read
  unfolding run shiftand_turn
  steps_left h zero s l = omega arith
  steps_left h (suc f) s l =
      bool_cases (ltb s.read (length T))
      (λ y. let k : s.read < length T = ltb-true _ _ y in
      ap (λ (r : Run). r.steps) (run_on (unread P T) (shiftand_turn P T) f s (is_unread s h k))
      ∙ (let q = steps_left h f (shiftand_turn P T s).next (omega arith) in omega arith))
      (λ n. let k : length T ≤ s.read = ltb-false _ _ n in
      ap (λ (r : Run). r.steps) (run_stop (unread P T) (shiftand_turn P T) (suc f) s (is_read s k)) ∙ omega arith)

  pub shiftand_steps : length P ≤ length T → (shiftand_run P T).steps ≡ length T
  unfolding shiftand_run
  shiftand_steps h = steps_left h (length T) cleared (omega arith) ∙ omega arith

  -- no work where the pattern is longer than the text
  pub shiftand_idle : length T < length P → shiftand_run P T ≡ idle
  unfolding shiftand_run
  shiftand_idle l = run_stop (unread P T) (shiftand_turn P T) (length T) cleared (too_long cleared l)

  pub shiftand_small : (shiftand_run P T).steps ≤ length T
  shiftand_small =
      bool_cases (leb (length P) (length T))
      (λ y. omega (arith, shiftand_steps (leb-true _ _ y)))
      (λ n. rw (shiftand_idle (leb-false _ _ n)) (omega arith))
