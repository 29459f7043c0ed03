-- The count line: what is read was written so, and what was written is read. Assumes nothing.
use mathlib.Core.Path.{◌≡◌, sym, ap, ap₂, ◌∙◌}
use mathlib.Core.Bool.{true, false, not, ◌&&◌}
use mathlib.Core.List.{List, ◌∷◌, ◌++◌}
use Prim.Native.Nat.{ℕ, suc, ◌+◌, ◌≤◌, ◌<◌}
use native.Mathlib.Nat.{pow-le-pow_right}
use native.Mathlib.Numerals.{add-one}
use native.Mathlib.Omega.{arith}
use borrow.Author.Tests.{eq-eqb, lt-ltb, ltb-true, ltb-false, eqb-true, eqb-false, not-true}
use lib.Dec.{eqb, ltb, lit<}
use lib.ListN.{length, get_or, take, drop, length-drop, get_or-eq_default}
use lib.Seq.{get_or-append_seam, take-append_seam, drop-cons}
use Rattle.std.proofs.Common.{Some, None}
use Rattle.std.specs.Char.{is_ascii_digit}
use Rattle.std.proofs.lemmas.Bool.Decides.{nat_tests}
use Rattle.std.proofs.lemmas.List.{get_or-take, length-take}
use Rattle.std.proofs.lemmas.List.Folds.{length-prefix_len}
use Rattle.std.proofs.lemmas.List.Sums.{prefix_len_passes}
use Rattle.letters.proofs.Truth.{bool_cases, and_true_l, and_true_r, both_ways}
use Rattle.decimal.specs.Decimal.{front_digits, value, decimal}
use Rattle.decimal.specs.CountLine.{counted, right_count, count_at}
use Rattle.decimal.specs.declared.count.Counted.{Counted}
use Rattle.decimal.proofs.DecimalLaws.{decimal_spelled, decimal_short, decimal_back, digits_line, first_append, digits_digs, digits_front, first_of, value_lt}

-- the n bytes that are digits
pub digits_taken : (s : List ℕ) (n : ℕ) → n ≡ length (front_digits s) → (i : ℕ) → i < length (take n s) → is_ascii_digit (get_or (take n s) i 0) ≡ true
digits_taken s n e i h =
    let l : i < n = omega (arith, length-take {A = ℕ}) in
    ap is_ascii_digit (get_or-take n s i 0 l) ∙ prefix_len_passes is_ascii_digit s i 0 (omega (arith, length-prefix_len is_ascii_digit s))

pub count_few : (s : List ℕ) (n : ℕ) → right_count s n ≡ true → length (take n s) ≤ 5
unfolding right_count
count_few s n r = grind (arith, nat_tests, length-take {A = ℕ})

-- the count line of which n digits stand in front
module _ (at : ℕ) (s : List ℕ) (n : ℕ) (e : n ≡ length (front_digits s)) where
  pub count_none : right_count s n ≡ false → None ≡ count_at at s
  unfolding count_at
  count_none r = rw (← e, r)

  pub count_some : right_count s n ≡ true → (v : ℕ) → v ≡ value 0 (take n s) → Some (counted v (at + n + 1)) ≡ count_at at s
  unfolding count_at
  count_some r v q =
      let all : take n s ≡ front_digits s = ap (λ (i : ℕ). take i s) (e ∙ length-prefix_len is_ascii_digit s) in
      rw (← e, r, q, all, add-one (at + n))

-- what the tests of a right count line come to
right_is : (s : List ℕ) (n : ℕ) → 0 < n → n ≤ 5 → get_or s n 0 ≡ 10 → (1 < n → get_or s 0 0 ≡ 48 → ⊥) → right_count s n ≡ true
unfolding right_count
right_is s n p l f z = grind (arith, nat_tests)

-- a count line that is right
pub record Right (at : ℕ) (s : List ℕ) (v e : ℕ) : Type 0 where
  pub some : length (front_digits s) ≡ 0 → ⊥
  pub few : length (front_digits s) ≤ 5
  pub lf : get_or s (length (front_digits s)) 0 ≡ 10
  pub lead : (ltb 1 (length (front_digits s)) && eqb (get_or s 0 0) 48) ≡ false
  pub number : v ≡ value 0 (front_digits s)
  pub place : e ≡ suc (at + length (front_digits s))

pub count_right : (at : ℕ) (s : List ℕ) (v e : ℕ) → count_at at s ≡ Some (counted v e) → Right at s v e
unfolding count_at right_count
count_right at s v e q =
    let n = length (front_digits s) in
    bool_cases (not (eqb n 0) && not (ltb 5 n) && eqb (get_or s n 0) 10 && not (ltb 1 n && eqb (get_or s 0 0) 48))
    (λ b. let w : Some (counted (value 0 (front_digits s)) (suc (at + n))) ≡ Some (counted v e) = rw b at q in
    let read : counted v e ≡ counted (value 0 (front_digits s)) (suc (at + n)) = cc in
    let b3 = and_true_l (not (eqb n 0) && not (ltb 5 n) && eqb (get_or s n 0) 10) (not (ltb 1 n && eqb (get_or s 0 0) 48)) b in
    let b2 = and_true_l (not (eqb n 0) && not (ltb 5 n)) (eqb (get_or s n 0) 10) b3 in
    record {
      some = eqb-false n 0 (not-true (eqb n 0) (and_true_l (not (eqb n 0)) (not (ltb 5 n)) b2));
      few = ltb-false 5 n (not-true (ltb 5 n) (and_true_r (not (eqb n 0)) (not (ltb 5 n)) b2));
      lf = eqb-true (get_or s n 0) 10 (and_true_r (not (eqb n 0) && not (ltb 5 n)) (eqb (get_or s n 0) 10) b3);
      lead = not-true (ltb 1 n && eqb (get_or s 0 0) 48) (and_true_r (not (eqb n 0) && not (ltb 5 n) && eqb (get_or s n 0) 10) (not (ltb 1 n && eqb (get_or s 0 0) 48)) b);
      number = ap (λ (c : Counted). c.number) read;
      place = ap (λ (c : Counted). c.next) read;
    })
    (λ b. let w : None ≡ Some (counted v e) = rw b at q in cc)

-- the line is within the sheet
pub count_within : (at : ℕ) (s : List ℕ) (v e : ℕ) → at ≤ length s → count_at at (drop at s) ≡ Some (counted v e) → e ≤ length s
count_within at s v e l q =
    let r = count_right at (drop at s) v e q in
    let n = length (front_digits (drop at s)) in
    let h : n < length (drop at s) = bool_cases (ltb n (length (drop at s))) (λ b. ltb-true _ _ b)
    (λ b. absurd (let d = get_or-eq_default (drop at s) 0 (ltb-false n (length (drop at s)) b) in omega (arith, r.lf))) in
    omega (arith, r.place, length-drop at s)

-- a count that was written is read
pub count_read : (at v : ℕ) (r : List ℕ) → v < 100000 → count_at at (decimal v ++ (10 ∷ r)) ≡ Some (counted v (suc (at + length (decimal v))))
count_read at v r h =
    let ds = decimal v in
    let s = ds ++ (10 ∷ r) in
    let sp = decimal_spelled v (omega arith) in
    let len = decimal_short 5 v h (omega arith) (omega arith) in
    let e : front_digits s ≡ ds = digits_line ds r sp.digs in
    let n = ap length e in
    let lf : get_or s (length (front_digits s)) 0 ≡ 10 = ap (λ (i : ℕ). get_or s i 0) n ∙ get_or-append_seam ds 10 r 0 in
    let fin : Some (counted (value 0 ds) (at + length ds + 1)) ≡ Some (counted v (suc (at + length ds))) = rw (sp.val, add-one (at + length ds)) in
    let right = right_is s (length ds) sp.some len (sym (ap (λ (i : ℕ). get_or s i 0) n) ∙ lf) (λ l z. omega (arith, sp.lead l, first_append ds (10 ∷ r) sp.some)) in
    sym (count_some at s (length ds) (sym n) right (value 0 ds) (ap (value 0) (sym (take-append_seam ds (10 ∷ r))))) ∙ fin

-- a count that is read was written so
pub record WasCount (at : ℕ) (s : List ℕ) (v e : ℕ) : Type 0 where
  pub rest : List ℕ
  pub bytes : s ≡ decimal v ++ (10 ∷ rest)
  pub small : v < 100000
  pub place : e ≡ suc (at + length (decimal v))

pub count_written : (at : ℕ) (s : List ℕ) (v e : ℕ) → count_at at s ≡ Some (counted v e) → WasCount at s v e
count_written at s v e q =
    let r = count_right at s v e q in
    let ds = front_digits s in
    let n = length ds in
    let some = r.some in
    let pos : 0 < n = omega arith in
    let dg = digits_digs s in
    let h : n < length s = bool_cases (ltb n (length s)) (λ b. ltb-true _ _ b) (λ b. absurd (let d = get_or-eq_default s 0 (ltb-false n (length s) b) in omega (arith, r.lf))) in
    let ld : 1 < n → get_or ds 0 0 ≡ 48 → ⊥ = (λ l z. let t : (ltb 1 n && eqb (get_or s 0 0) 48) ≡ true = rw (lt-ltb 1 n l, eq-eqb (get_or s 0 0) 48 (sym (first_of s pos) ∙ z)) in both_ways _ t r.lead) in
    let back : decimal v ≡ ds = ap decimal r.number ∙ decimal_back ds (omega (arith, r.few)) dg pos ld in
    let p5 = pow-le-pow_right {n = 10} (lit< tt) r.few in
    record {
      rest = drop (suc n) s;
      bytes = digits_front s ∙ ap₂ (λ (xs ys : List ℕ). xs ++ ys) (sym back) (drop-cons s n 0 h ∙ ap (λ (x : ℕ). x ∷ drop (suc n) s) r.lf);
      small = omega (arith, r.number, value_lt ds dg);
      place = omega (arith, r.place, ap length back);
    }
