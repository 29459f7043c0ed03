-- The pattern's own shifts, from its front and from its end: how they are worked out, and where they are the rule's. Assumes nothing.
use mathlib.Core.Path.{◌≡◌, refl, sym, ap, ◌∙◌}
use mathlib.Core.Bool.{Bool, true}
use mathlib.Core.List.{List}
use Prim.Native.Nat.{ℕ, ◌+◌, ◌-◌, ◌≤◌, ◌<◌, zero-le, min}
use native.Mathlib.Omega.{arith}
use borrow.Author.Tests.{leb-true, leb-false, le-leb, lt-leb, eqb-true, eqb-false, eq-eqb, ne_eqb}
use lib.Dec.{leb, eqb}
use lib.ListN.{length, get_or}
use Rattle.letters.proofs.Truth.{bool_cases}
use Rattle.lent.proofs.TableLaws.{same_table}
use Rattle.hits.specs.Hits.{met}
use Rattle.hits.specs.Scans.{reach, back}
use Rattle.shifts.specs.Least.{least}
use Rattle.shifts.specs.Shift.{covers, fit, self_fit}
use Rattle.hits.specs.Singles.{all_single}
use Rattle.hits.proofs.BackLaws.{back_le, met_back}
use Rattle.shifts.proofs.LeastLaws.{least_same}
use Rattle.shifts.proofs.ShiftLaws.{least_plain}
use Rattle.hits.proofs.SingleLaws.{singles_part}
use Rattle.hits.proofs.ScanLaws.{met_reach}
use Rattle.pattern.specs.Far.{front_far, end_far}
use Rattle.pattern.specs.Tables.{shift_table, FrontShifts, EndShifts}
use Rattle.pattern.proofs.TableLaws.{enough}

-- the least s that is far enough is the least that fits, where far says how far each stretch fits
pub far_shifts : (M m : ℕ) (far : List ℕ) (F : ℕ → ℕ) (b : ℕ → ℕ → Bool) → ((s : ℕ) → 0 < s → s ≤ m → get_or far s 0 ≡ F s)
    → ((h s : ℕ) → h ≤ m → b h s ≡ leb h (F s)) → shift_table M m (enough far) ≡ shift_table M m b
unfolding shift_table
far_shifts M m far F b f g =
    same_table (M + 1) _ _
    (λ h l. bool_cases (leb h m)
    (λ y. rw y (least_same (enough far h) (b h) 1 (m - 1) (λ s u v. ap (leb h) (f s u (omega arith)) ∙ sym (g h s (leb-true _ _ y)))))
    (λ n. rw n))

-- From the front: P moved by s meets itself under its first h letters exactly if it meets itself up to h
pub front_far_lem : (P : List ℕ) (h s : ℕ) → h ≤ length P → self_fit P 0 h s ≡ leb h (front_far P s)
unfolding self_fit
front_far_lem P h s l =
    let z : 0 - s ≡ 0 = omega arith in
    let y : h - s - 0 ≡ h - s = omega arith in
    rw (z, y)
    (met_reach P P s 0 (h - s) (length P - s) (omega arith)
    ∙ bool_cases (leb h (front_far P s))
    (λ e. let k : h ≤ front_far P s = leb-true _ _ e in le-leb (0 + (h - s)) (reach P P s 0 (length P - s)) (omega arith) ∙ sym e)
    (λ e. let k : front_far P s < h = leb-false _ _ e in lt-leb (0 + (h - s)) (reach P P s 0 (length P - s)) (omega arith) ∙ sym e))

-- where P's first h letters and the text under them are single, the rule's least shift is the table's, cut to the first start past the last
pub front_shift : (P T tab : List ℕ) (i h : ℕ) → FrontShifts P tab → 0 < h → h ≤ length P → i + length P ≤ length T
    → met P T i 0 h ≡ true → all_single P 0 h ≡ true → all_single T i h ≡ true
    → least (fit P T i 0 h) 1 (h - 1) ≡ min (get_or tab h 0) (length T + 1 - (length P + i))
front_shift P T tab i h t a b l m p q =
    let z : h - 0 ≡ h = omega arith in
    let y : i + 0 ≡ i = omega arith in
    least_plain P T i 0 h zero-le (rw z m) (rw z p) (rw (z, y) q) (h - 1) l
    ∙ ap (λ (x : ℕ). min x (length T + 1 - (length P + i))) (sym (t h a b))

-- From the end
module _ (P : List ℕ) (s : ℕ) where
  pub far_all : back P P s (length P - s) ≡ length P - s → end_far P s ≡ length P
  unfolding end_far
  far_all e = rw (eq-eqb _ _ e)

  pub far_some : (back P P s (length P - s) ≡ length P - s → ⊥) → end_far P s ≡ back P P s (length P - s)
  unfolding end_far
  far_some e = rw (ne_eqb _ _ e)

  back_far : (g c : ℕ) → g ≤ length P → c ≡ covers (length P - g) (length P) s → leb c (back P P s (length P - s)) ≡ leb g (end_far P s)
  back_far g c l z =
      let k = back_le P P s (length P - s) in
      bool_cases (eqb (back P P s (length P - s)) (length P - s))
      (λ e. let q : back P P s (length P - s) ≡ length P - s = eqb-true _ _ e in
      le-leb c (back P P s (length P - s)) (omega arith) ∙ sym (le-leb g (end_far P s) (omega (arith, far_all q))))
      (λ e. let q : (back P P s (length P - s) ≡ length P - s → ⊥) = eqb-false _ _ e in
      let w = far_some q in
      bool_cases (leb g (end_far P s))
      (λ y. let v : g ≤ end_far P s = leb-true _ _ y in le-leb c (back P P s (length P - s)) (omega arith) ∙ sym y)
      (λ n. let v : end_far P s < g = leb-false _ _ n in lt-leb c (back P P s (length P - s)) (omega arith) ∙ sym n))

  -- P moved by s meets itself under its last g letters exactly if it meets g of them from the end
  pub end_far_lem : (g : ℕ) → g ≤ length P → self_fit P (length P - g) (length P) s ≡ leb g (end_far P s)
  unfolding self_fit
  end_far_lem g l =
      let c = covers (length P - g) (length P) s in
      let z : length P - g - s ≡ length P - s - c = omega arith in
      ap (λ (a : ℕ). met P P s a c) z ∙ met_back P P s (length P - s) c (omega arith) ∙ back_far g c l refl

-- where P and the g text letters under its end are single, the rule's least shift is the table's, cut to the first start past the last
pub end_shift : (P T tab : List ℕ) (i g : ℕ) → EndShifts P tab → i + length P ≤ length T
    → g ≡ back P T i (length P) → all_single P 0 (length P) ≡ true → all_single T (i + (length P - g)) g ≡ true
    → least (fit P T i (length P - g) (length P)) 1 (length P - 1) ≡ min (get_or tab g 0) (length T + 1 - (length P + i))
end_shift P T tab i g t l e p q =
    let b = back_le P T i (length P) in
    let z : length P - (length P - g) ≡ g = omega arith in
    least_plain P T i (length P - g) (length P) (omega arith)
    (rw z (met_back P T i (length P) g (omega arith) ∙ le-leb g (back P T i (length P)) (omega arith)))
    (singles_part P 0 (length P) (length P - g) (length P - (length P - g)) p zero-le (omega arith))
    (rw z q)
    (length P - 1) l
    ∙ ap (λ (x : ℕ). min x (length T + 1 - (length P + i))) (sym (t g (omega arith)))
