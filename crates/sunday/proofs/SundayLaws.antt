-- Sunday is sound, since a start that it passes over is no hit, so its run finds the hits; and it makes at most m tests a start. Assumes nothing.
use mathlib.Core.Path.{◌≡◌, refl, sym, ap, ◌∙◌}
use mathlib.Core.Bool.{false}
use mathlib.Core.List.{List, []}
use Prim.Native.Nat.{ℕ, suc, ◌+◌, ◌-◌, ◌*◌, ◌≤◌, ◌<◌}
use native.Mathlib.Omega.{arith}
use borrow.Author.Tests.{eq-eqb, ne_eqb, eqb-true, eqb-false}
use lib.Dec.{eqb}
use lib.ListN.{length, get_or}
use Rattle.letters.specs.Members.{keep}
use Rattle.letters.specs.Sizes.{Sized}
use Rattle.letters.proofs.Truth.{bool_cases}
use Rattle.hits.specs.Hits.{within, hit_at, hits}
use Rattle.hits.specs.Turns.{Turn, Run, idle}
use Rattle.hits.specs.Counts.{turn_of}
use Rattle.hits.specs.declared.work.Turned.{Turned}
use Rattle.hits.proofs.HitLaws.{no_hit, one_from}
use Rattle.hits.proofs.ScanLaws.{scan_hit, tests_le}
use Rattle.hits.proofs.RunLaws.{Sound, finds_all, by_start, per_start, no_start, start_small}
use Rattle.inputs.specs.Starts.{Settling}
use Rattle.inputs.proofs.StartLaws.{passing}
use Rattle.pattern.specs.Last.{after_r}
use Rattle.pattern.proofs.LastLaws.{last_above, r_le}
use Rattle.sunday.specs.Sunday.{next_start, sunday_turn, sunday_run}

module _ (P T : List ℕ) where
  module _ (i : ℕ) where
    -- R + 1 of the letter after the window
    abbrev r : ℕ
    r = after_r P (get_or T (i + length P) 0)

    pub next_end : i + length P ≡ length T → next_start P T i ≡ i + 1
    unfolding next_start
    next_end e = rw (eq-eqb (i + length P) (length T) e)

    next_on : (i + length P ≡ length T → ⊥) → next_start P T i ≡ i + (length P + 1 - r)
    unfolding next_start
    next_on n = rw (ne_eqb (i + length P) (length T) n)

    -- the same with R + 1 in hand
    pub next_by : (i + length P ≡ length T → ⊥) → (x : ℕ) → x ≡ r → (x ≤ length P) × (next_start P T i + x ≡ i + length P + 1)
    next_by n x e = omega (arith, next_on n, r_le P (get_or T (i + length P) 0))

    -- a start that is passed over has the letter after the window under a pattern letter above R
    passed : (j : ℕ) → i < j → j + r ≤ i + length P → hit_at P T j ≡ false
    unfolding after_r
    passed j l k =
        let q : j + (i + length P - j) ≡ i + length P = omega arith in
        no_hit P T j (i + length P - j) (omega arith)
        (rw q (last_above P (get_or T (i + length P) 0) (length P) (i + length P - j) (omega arith) (omega arith)))

    module _ (l : i + length P ≤ length T) where
      pub next_gt : i < next_start P T i
      next_gt =
          bool_cases (eqb (i + length P) (length T))
          (λ y. omega (arith, next_end (eqb-true _ _ y)))
          (λ n. omega (arith, next_on (eqb-false _ _ n), r_le P (get_or T (i + length P) 0)))

      pub next_le : next_start P T i ≤ length T + 1
      next_le =
          bool_cases (eqb (i + length P) (length T))
          (λ y. omega (arith, next_end (eqb-true _ _ y)))
          (λ n. omega (arith, next_on (eqb-false _ _ n)))

      pub next_passes : (j : ℕ) → i < j → j < next_start P T i → hit_at P T j ≡ false
      next_passes j u v =
          bool_cases (eqb (i + length P) (length T))
          (λ y. absurd (let z = next_end (eqb-true _ _ y) in omega arith))
          (λ n. let z = next_on (eqb-false _ _ n) in passed j u (let w = r_le P (get_or T (i + length P) 0) in omega arith))

  -- each turn settles the starts that it passes
  pub settles : Settling P T (sunday_turn P T)
  unfolding sunday_turn
  settles i l =
      let g = next_gt i l in
      record {
        more = next_start P T i - suc i;
        moved = omega arith;
        near = next_le i l;
        right = ap (λ b. keep b i []) (scan_hit P T i l) ∙ sym (one_from P T (next_start P T i - suc i) i (λ j u v. next_passes i l j u (omega arith)));
      }

  -- the next start is on, and at most one past the text
  pub turn_ahead : (i : ℕ) → i + length P ≤ length T → (r : Turned) → turn_of i r ≡ sunday_turn P T i → (i < r.next) × (r.next ≤ length T + 1)
  unfolding sunday_turn
  turn_ahead i l r e = omega (arith, ap (λ (t : Turn ℕ). t.next) e, next_gt i l, next_le i l)

  unfoldable pub sound : Sound P T (within P T) (sunday_turn P T) (suc (length T)) 0
  sound = by_start (passing settles)

  -- the rule's run finds exactly the hits
  pub sunday_finds : (sunday_run P T).found ≡ hits P T
  unfolding sunday_run
  sunday_finds = finds_all sound

  -- scan tests: at most m (n - m + 1)
  pub sunday_scan : (sunday_run P T).scan ≤ length P * (length T + 1 - length P)
  unfolding sunday_run sunday_turn
  sunday_scan = per_start (passing settles) (λ (r : Run). r.scan) (λ (t : Turn ℕ). t.scan) refl (λ t r. refl) (length P) (λ i. tests_le P T i 0 (length P))

  -- and no shift test
  pub sunday_shift : (sunday_run P T).shift ≤ 0
  unfolding sunday_run sunday_turn
  sunday_shift = omega (arith, per_start (passing settles) (λ (r : Run). r.shift) (λ (t : Turn ℕ). t.shift) refl (λ t r. refl) 0 (λ i. omega arith))

  -- a pattern longer than the text: no turn, and no count
  pub sunday_idle : length T < length P → sunday_run P T ≡ idle
  unfolding sunday_run
  sunday_idle l = no_start P T (sunday_turn P T) (suc (length T)) l

-- within the limits it fits a word
pub sunday_small : {M N : ℕ} {P T : List ℕ} → Sized M N P T → (sunday_run P T).scan ≤ M * (N + 1)
sunday_small {M} {N} {P} {T} s = start_small s (sunday_run P T).scan (sunday_scan P T)
