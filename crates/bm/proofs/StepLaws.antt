-- A turn of BM's rule, by the letters that are left when its scan stops: none, all, or some. Assumes nothing.
use mathlib.Core.Path.{◌≡◌, refl, sym, ap, ◌∙◌}
use mathlib.Core.Bool.{Bool, true, false, ◌&&◌, or-true}
use mathlib.Core.List.{List, []}
use Prim.Native.Nat.{ℕ, zero, suc, ◌+◌, ◌-◌, ◌≤◌, ◌<◌, max}
use native.Mathlib.Omega.{arith}
use borrow.Author.Tests.{eq-eqb, ne_eqb, lt-ltb, le-ltb}
use lib.Dec.{leb, ltb, eqb}
use lib.ListN.{length}
use Rattle.letters.specs.Members.{keep}
use Rattle.letters.proofs.Truth.{bool_cases}
use Rattle.hits.specs.Counts.{tally}
use Rattle.hits.specs.Scans.{tests}
use Rattle.hits.specs.Turns.{Turn}
use Rattle.shifts.specs.Shift.{covers, fit, trial, trials}
use Rattle.hits.specs.Singles.{all_single}
use Rattle.hits.specs.Hits.{met}
use Rattle.hits.proofs.BackLaws.{tests_back}
use Rattle.shifts.proofs.LeastLaws.{least_here}
use Rattle.bm.specs.Bm.{end_met, first_shift, first_tests, fail_shift, second_shift, bm_turn}
use Rattle.hits.specs.declared.scan.Back.{Back}
use Rattle.bm.specs.Steps.{Stopped}
use Rattle.bm.proofs.BmLaws.{first_ge, first_le, fail_ge, fail_le, second_hit, second_miss}

-- the tests of the first shift, by whether all of P and the g text letters are single
module _ (P T : List ℕ) (i g : ℕ) where
  pub tests_sure : (all_single P 0 (length P) && all_single T (i + (length P - g)) g) ≡ true → first_tests P T i g ≡ 0
  unfolding first_tests
  tests_sure e = rw e

  pub tests_tried : (all_single P 0 (length P) && all_single T (i + (length P - g)) g) ≡ false → first_tests P T i g ≡ trials P T i (length P - g) (length P) 1 (length P - 1)
  unfolding first_tests
  tests_tried e = rw e

-- where no letter meets, nothing is covered: a shift by 1 fits, with no test
module _ (P T : List ℕ) (i : ℕ) (pos : 0 < length P) where
  nothing : covers (length P - 0) (length P) 1 ≡ 0
  nothing = omega arith

  fit_one : fit P T i (length P - 0) (length P) 1 ≡ true
  unfolding fit met
  fit_one = rw nothing (or-true (ltb (length T) (i + 1 + length P)))

  trial_one : trial P T i (length P - 0) (length P) 1 ≡ 0
  unfolding trial tests
  trial_one = bool_cases (leb (i + 1 + length P) (length T)) (λ y. rw (y, nothing)) (λ n. rw n)

  trials_one : (f : ℕ) → trials P T i (length P - 0) (length P) 1 f ≡ 0
  unfolding trials
  trials_one zero = refl
  trials_one (suc f) = rw fit_one (omega (arith, trial_one))

  first_one : first_shift P T i 0 ≡ 1
  unfolding first_shift
  first_one = least_here (fit P T i (length P - 0) (length P)) 1 (length P - 1) fit_one

  tests_none : first_tests P T i 0 ≡ 0
  tests_none =
      bool_cases (all_single P 0 (length P) && all_single T (i + (length P - 0)) 0)
      (λ y. tests_sure P T i 0 y)
      (λ n. tests_tried P T i 0 n ∙ trials_one (length P - 1))

-- the turn, number by number
module _ (P T : List ℕ) (i g : ℕ) (e : g ≡ end_met P T i) where
  turn_is : (hit : Bool) (by sc sh : ℕ) → hit ≡ eqb g (length P) → by ≡ max (first_shift P T i g) (second_shift P T i g)
      → sc ≡ g + tally (ltb g (length P)) → sh ≡ first_tests P T i g
      → ◌≡◌ {A = Turn ℕ} (record { found = keep hit i []; next = i + by; scan = sc; shift = sh; steps = 0 }) (bm_turn P T i)
  unfolding bm_turn
  turn_is hit by sc sh eh eb ec es = rw (eh, eb, ec, es, e, tests_back P T i (length P))

-- where the scan stopped, by what is worked out from P and what the scan answers
pub stopped : {P T : List ℕ} {i : ℕ} {whole : Bool} {b : Back} → whole ≡ all_single P 0 (length P) → i + length P ≤ length T
    → (b.left ≤ length P) × (length P - b.left ≡ end_met P T i) × (b.sure ≡ (whole && all_single T (i + b.left) (length P - b.left))) → Stopped P T i b
stopped {P} {T} {i} {whole} {b} w l e =
    record {
      inside = l;
      top = e.0;
      rest = e.1;
      single = e.2 ∙ ap (λ (x : Bool). x && all_single T (i + b.left) (length P - b.left)) w;
    }

-- the same by the letters that are left
module _ {P T : List ℕ} {i : ℕ} {b : Back} (pos : 0 < length P) (h : Stopped P T i b) where
  abbrev left : ℕ
  left = b.left

  abbrev g : ℕ
  g = length P - left

  -- all are left: none meets
  pub turn_none : left ≡ length P → (s : ℕ) → s ≡ fail_shift P T i (length P - 1)
      → ◌≡◌ {A = Turn ℕ} (record { found = []; next = i + s; scan = 1; shift = 0; steps = 0 }) (bm_turn P T i)
  turn_none w s es =
      let z : g ≡ 0 = omega arith in
      let y : length P - 1 - 0 ≡ length P - 1 = omega arith in
      let f = ap (first_shift P T i) z ∙ first_one P T i pos in
      let b : second_shift P T i g ≡ s = second_miss P T i g (omega arith) ∙ rw (z, y) (sym es) in
      turn_is P T i g h.rest false s 1 0
      (sym (ne_eqb g (length P) (λ q. omega arith)))
      (omega (arith, fail_ge P T i (length P - 1)))
      (rw (lt-ltb g (length P) (omega arith)) (omega arith))
      (sym (ap (first_tests P T i) z ∙ tests_none P T i pos))

  -- none is left: a hit
  pub turn_hit : left ≡ 0 → (a sh : ℕ) → a ≡ first_shift P T i g → sh ≡ first_tests P T i g
      → ◌≡◌ {A = Turn ℕ} (record { found = keep true i []; next = i + a; scan = length P; shift = sh; steps = 0 }) (bm_turn P T i)
  turn_hit w a sh ea es =
      let z : g ≡ length P = omega arith in
      let b = second_hit P T i g z in
      turn_is P T i g h.rest true a (length P) sh
      (sym (eq-eqb g (length P) z))
      (omega (arith, first_ge P T i g))
      (rw (le-ltb g (length P) (omega arith)) (omega arith))
      es

  -- some are left, the last of which fails
  pub turn_fail : 0 < left → (a b sh : ℕ) → a ≡ first_shift P T i g → b ≡ fail_shift P T i (left - 1) → sh ≡ first_tests P T i g
      → ◌≡◌ {A = Turn ℕ} (record { found = []; next = i + max a b; scan = g + 1; shift = sh; steps = 0 }) (bm_turn P T i)
  turn_fail w a b sh ea eb es =
      let z : length P - 1 - g ≡ left - 1 = omega arith in
      let y : b ≡ second_shift P T i g = eb ∙ sym (second_miss P T i g (omega arith) ∙ ap (fail_shift P T i) z) in
      turn_is P T i g h.rest false (max a b) (g + 1) sh
      (sym (ne_eqb g (length P) (λ q. omega arith)))
      (rw (ea, y))
      (rw (lt-ltb g (length P) (omega arith)))
      es

  -- neither shift is longer than the pattern
  pub by_first : (a : ℕ) → a ≡ first_shift P T i g → a ≤ length P
  by_first a ea = omega (arith, first_le P T i g)

  pub by_larger : (a b r : ℕ) → a ≡ first_shift P T i g → b ≡ fail_shift P T i (left - 1) → r ≡ max a b → r ≤ length P
  by_larger a b r ea eb er = omega (arith, h.top, first_le P T i g, fail_le P T i (left - 1))
