-- BM is sound, so its run finds the hits; and what its run costs. Assumes nothing.
use mathlib.Core.Path.{◌≡◌, refl, sym, ap, ◌∙◌}
use mathlib.Core.Bool.{Bool, false, ◌&&◌}
use mathlib.Core.List.{List, []}
use Prim.Native.Nat.{ℕ, suc, ◌+◌, ◌-◌, ◌*◌, ◌≤◌, ◌<◌, zero-le, max}
use native.Mathlib.Nat.{mul_comm, mul-le-mul_left}
use native.Mathlib.Omega.{arith}
use borrow.Author.Tests.{le-leb, lt-leb, eqb-true, eqb-false, eq-eqb, ne_eqb, ltb-true, ltb-false}
use lib.Dec.{eqb, ltb}
use lib.ListN.{length, get_or}
use Rattle.letters.specs.Members.{keep}
use Rattle.letters.specs.Sizes.{Sized}
use Rattle.letters.proofs.Truth.{bool_cases}
use Rattle.hits.specs.Hits.{within, hit_at, hits}
use Rattle.hits.specs.Turns.{Turn, Run, idle}
use Rattle.hits.specs.Counts.{turn_of}
use Rattle.hits.specs.declared.work.Turned.{Turned}
use Rattle.hits.proofs.HitLaws.{hit_is, no_hit, one_from}
use Rattle.hits.proofs.RunLaws.{Sound, finds_all, bounded, by_start, per_start, no_start, start_small, shift_small}
use Rattle.inputs.specs.Starts.{Settling}
use Rattle.inputs.proofs.StartLaws.{passing}
use Rattle.shifts.specs.Least.{least}
use Rattle.shifts.specs.Shift.{fit, trials}
use Rattle.hits.specs.Singles.{all_single}
use Rattle.hits.proofs.BackLaws.{back_le, met_back, back_tests_le}
use Rattle.shifts.proofs.LeastLaws.{least_ge, least_le, least_first}
use Rattle.shifts.proofs.ShiftLaws.{unfit, trials_pay}
use Rattle.pattern.specs.Last.{after_r}
use Rattle.pattern.proofs.LastLaws.{last_above}
use Rattle.bm.specs.Bm.{end_met, first_shift, first_tests, fail_shift, second_shift, bm_turn, bm_run}

-- the first shift
module _ (P T : List ℕ) (i g : ℕ) where
  pub first_ge : 1 ≤ first_shift P T i g
  unfolding first_shift
  first_ge = least_ge (fit P T i (length P - g) (length P)) 1 (length P - 1)

  pub first_le : first_shift P T i g ≤ 1 + (length P - 1)
  unfolding first_shift
  first_le = least_le (fit P T i (length P - g) (length P)) 1 (length P - 1)

  -- a start that it passes over is no hit
  first_none : (d : ℕ) → 0 < d → d < first_shift P T i g → hit_at P T (i + d) ≡ false
  unfolding first_shift
  first_none d a b =
      unfit P T i (length P - g) (length P) d (omega arith) (omega arith)
      (least_first (fit P T i (length P - g) (length P)) 1 (length P - 1) d a b)

-- the shift after a failure at j
module _ (P T : List ℕ) (i j : ℕ) where
  pub fail_ge : 1 ≤ fail_shift P T i j
  unfolding fail_shift
  fail_ge = omega arith

  pub fail_le : fail_shift P T i j ≤ 1 + j
  unfolding fail_shift
  fail_le = omega arith

  -- a start that it passes over is no hit: the letter of P that comes to stand over the text letter does not meet it
  fail_none : (d : ℕ) → j < length P → 0 < d → d < fail_shift P T i j → hit_at P T (i + d) ≡ false
  unfolding fail_shift after_r
  fail_none d l a b =
      let q : i + d + (j - d) ≡ i + j = omega arith in
      no_hit P T (i + d) (j - d) (omega arith) (rw q (last_above P (get_or T (i + j) 0) (length P) (j - d) (omega arith) (omega arith)))

-- the second shift
module _ (P T : List ℕ) (i g : ℕ) where
  pub second_hit : g ≡ length P → second_shift P T i g ≡ 1
  unfolding second_shift
  second_hit e = rw (eq-eqb g (length P) e)

  pub second_miss : g < length P → second_shift P T i g ≡ fail_shift P T i (length P - 1 - g)
  unfolding second_shift
  second_miss l = rw (ne_eqb g (length P) (λ e. omega arith))

-- the larger of the two
module _ (P T : List ℕ) (i : ℕ) where
  abbrev by : ℕ
  by = max (first_shift P T i (end_met P T i)) (second_shift P T i (end_met P T i))

  -- all letters meet, or one fails
  end_cases {ℓ} : {R : Type ℓ} → (end_met P T i ≡ length P → R) → (end_met P T i < length P → R) → R
  end_cases y n =
      let b = back_le P T i (length P) in
      bool_cases (eqb (end_met P T i) (length P))
      (λ e. y (eqb-true _ _ e))
      (λ e. let q = eqb-false (end_met P T i) (length P) e in n (omega arith))

  by_le : by ≤ 1 + (length P - 1)
  by_le =
      let f = first_le P T i (end_met P T i) in
      end_cases
      (λ e. let z = second_hit P T i (end_met P T i) e in omega arith)
      (λ l. let z = second_miss P T i (end_met P T i) l in omega (arith, fail_le P T i (length P - 1 - end_met P T i)))

  second_none : (d : ℕ) → 0 < d → d < second_shift P T i (end_met P T i) → hit_at P T (i + d) ≡ false
  second_none d a b =
      end_cases
      (λ e. let z = second_hit P T i (end_met P T i) e in absurd (omega arith))
      (λ l. let z = second_miss P T i (end_met P T i) l in fail_none P T i (length P - 1 - end_met P T i) d (omega arith) a (omega arith))

  -- a start that the larger passes over is no hit
  pub by_none : (d : ℕ) → 0 < d → d < by → hit_at P T (i + d) ≡ false
  by_none d a b =
      bool_cases (ltb d (first_shift P T i (end_met P T i)))
      (λ y. first_none P T i (end_met P T i) d a (ltb-true _ _ y))
      (λ n. let k : first_shift P T i (end_met P T i) ≤ d = ltb-false _ _ n in second_none d a (omega arith))

  -- all of P meets exactly at a hit
  pub end_hit : i + length P ≤ length T → eqb (end_met P T i) (length P) ≡ hit_at P T i
  end_hit l =
      let z : length P - length P ≡ 0 = omega arith in
      sym
      (hit_is P T i l ∙ (rw z at (met_back P T i (length P) (length P) (omega arith)))
      ∙ end_cases
      (λ (e : end_met P T i ≡ length P). le-leb (length P) (end_met P T i) (omega arith) ∙ sym (eq-eqb _ _ e))
      (λ (k : end_met P T i < length P). lt-leb (length P) (end_met P T i) k ∙ sym (ne_eqb (end_met P T i) (length P) (λ e. omega arith))))

module _ (P T : List ℕ) where
  -- a turn moves on, and not past the text's end
  pub turn_ahead : 0 < length P → (i : ℕ) → i + length P ≤ length T → (r : Turned) → turn_of i r ≡ bm_turn P T i → (i < r.next) × (r.next ≤ length T)
  unfolding bm_turn
  turn_ahead pos i l r e = omega (arith, ap (λ (t : Turn ℕ). t.next) e, first_ge P T i (end_met P T i), by_le P T i)

  -- each turn settles the starts that it passes
  pub settles : Settling P T (bm_turn P T)
  unfolding bm_turn
  settles i l =
      let g = first_ge P T i (end_met P T i) in
      let z : by P T i ≡ suc (by P T i - 1) = omega arith in
      record {
        more = by P T i - 1;
        moved = ap (λ (x : ℕ). i + x) z;
        near = omega (arith, by_le P T i);
        right =
            ap (λ (b : Bool). keep b i []) (end_hit P T i l)
            ∙ sym
            (one_from P T (by P T i - 1) i
            (λ j a b. let e : i + (j - i) ≡ j = omega arith in rw e at (by_none P T i (j - i) (omega arith) (omega arith))));
      }

  unfoldable pub sound : Sound P T (within P T) (bm_turn P T) (suc (length T)) 0
  sound = by_start (passing settles)

  -- the rule's run finds exactly the hits
  pub bm_finds : (bm_run P T).found ≡ hits P T
  unfolding bm_run
  bm_finds = finds_all sound

  -- scan tests: at most m (n - m + 1)
  pub bm_scan : (bm_run P T).scan ≤ length P * (length T + 1 - length P)
  unfolding bm_run bm_turn
  bm_scan = per_start (passing settles) (λ (r : Run). r.scan) (λ (t : Turn ℕ). t.scan) refl (λ t r. refl) (length P) (λ i. back_tests_le P T i (length P))

  tests_cut : (i g : ℕ) → first_tests P T i g ≤ trials P T i (length P - g) (length P) 1 (length P - 1)
  unfolding first_tests
  tests_cut i g = bool_cases (all_single P 0 (length P) && all_single T (i + (length P - g)) g) (λ e. rw e zero-le) (λ e. rw e (omega arith))

  -- what is left of the bound at start i
  abbrev room : ℕ → ℕ
  room i = (length P - 1) * (length T - length P - i)

  pays_some : 0 < length P → (i : ℕ) → (bm_turn P T i).shift + room (bm_turn P T i).next ≤ room i
  unfolding bm_turn first_shift
  pays_some pos i =
      let g = end_met P T i in
      let z : i + 0 ≡ i = omega arith in
      let e = rw z at (trials_pay P T i (length P - g) (length P) pos (omega arith) (omega arith) 0 (length P - 1)) in
      let a : length T - length P - (i + by P T i) ≤ length T - length P - (i + least (fit P T i (length P - g) (length P)) 1 (length P - 1)) = omega arith in
      omega (arith, e, tests_cut i g, mul-le-mul_left (length P - 1) a)

  -- an empty pattern tries no shift
  pays_none : length P - 1 ≡ 0 → (i : ℕ) → (bm_turn P T i).shift + room (bm_turn P T i).next ≤ room i
  unfolding bm_turn trials
  pays_none z i =
      let e = rw z at (tests_cut i (end_met P T i)) in
      rw z (omega (arith, e))

  pays : (i : ℕ) → (bm_turn P T i).shift + room (bm_turn P T i).next ≤ room i
  pays i = bool_cases (ltb 0 (length P)) (λ y. pays_some (ltb-true _ _ y) i) (λ n. let z : length P ≤ 0 = ltb-false _ _ n in pays_none (omega arith) i)

  -- shift tests: at most (n - m)(m - 1); so none where the pattern is longer than the text
  pub bm_shift : (bm_run P T).shift ≤ (length T - length P) * (length P - 1)
  unfolding bm_run sound by_start
  bm_shift =
      let h = bounded sound (λ (r : Run). r.shift) (λ (t : Turn ℕ). t.shift) refl (λ t r. refl) room (λ i o y. pays i) in
      let z : length T - length P - 0 ≡ length T - length P = omega arith in
      rw (mul_comm (length T - length P) (length P - 1)) (rw z at h)

  -- a pattern longer than the text: no turn, so no hit and no count
  pub bm_idle : length T < length P → bm_run P T ≡ idle
  unfolding bm_run
  bm_idle l = no_start P T (bm_turn P T) (suc (length T)) l

-- within the limits the counts fit a word
pub bm_scan_small : {M N : ℕ} {P T : List ℕ} → Sized M N P T → (bm_run P T).scan ≤ M * (N + 1)
bm_scan_small {M} {N} {P} {T} s = start_small s (bm_run P T).scan (bm_scan P T)

pub bm_shift_small : {M N : ℕ} {P T : List ℕ} → Sized M N P T → (bm_run P T).shift ≤ N * M
bm_shift_small {M} {N} {P} {T} s = shift_small s (bm_run P T).shift (bm_shift P T)
