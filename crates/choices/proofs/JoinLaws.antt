-- Joining the sets of two pairs, and a pass of joins: what they keep, and that the sum of the sets falls by each that changes something. Assumes nothing.
use mathlib.Core.Path.{◌≡◌, refl, sym, ap, ◌∙◌}
use mathlib.Core.Bool.{true, false, ◌||◌}
use mathlib.Core.List.{List}
use mathlib.Core.Logic.{◌⊎◌, inl, inr, ⊎_elim}
use Prim.Native.Nat.{ℕ, zero, suc, ◌≤◌, ◌<◌}
use native.Mathlib.Nat.{eq-or-lt_of_le, le_of_suc-le-suc, le_refl}
use native.Mathlib.Omega.{arith}
use borrow.Author.Tests.{eqb-true, eqb-false, not-true, not-false}
use lib.Bits.{and_le_l, and_le_r, and_self}
use lib.Dec.{eqb}
use lib.ListN.{length, get_or, set, length-set}
use Rattle.std.specs.List.{sum}
use Rattle.std.proofs.lemmas.List.Sums.{sum_by-set}
use lib.Seq.{get_or-set_same, get_or-set_other, set-get_or, lt-length-set}
use Rattle.letters.specs.Letters.{member, shared}
use Rattle.letters.proofs.Truth.{bool_cases, both_ways, or_false_l, or_false_r}
use Rattle.letters.proofs.LetterLaws.{shared_member, member_shared}
use Rattle.choices.specs.Candidates.{NeverAhead, common, joined, differs, passed, stirred}

module _ (a j : ℕ) (C : List ℕ) where
  pub length_joined : length (joined a j C) ≡ length C
  unfolding joined
  length_joined = length-set (set C a (common a j C)) j (common a j C) ∙ length-set C a (common a j C)

  -- two sets that are the same stay as they are
  pub joined_same : differs a j C ≡ false → joined a j C ≡ C
  unfolding joined shared
  joined_same e =
      let v = eqb-true _ _ (not-false _ e) in
      let x : common a j C ≡ get_or C a 0 = ap (shared (get_or C a 0)) (sym v) ∙ and_self (get_or C a 0) in
      let first : set C a (common a j C) ≡ C = ap (set C a) x ∙ set-get_or C a 0 in
      ap (λ (D : List ℕ). set D j (common a j C)) first ∙ ap (set C j) (x ∙ v) ∙ set-get_or C j 0

  module _ (la : a < length C) (lj : j < length C) where
    -- each set stays, or is what the two have in common
    joined_at : (h : ℕ) → (get_or (joined a j C) h 0 ≡ get_or C h 0) ⊎ ((get_or (joined a j C) h 0 ≡ common a j C) × ((h ≡ a) ⊎ (h ≡ j)))
    unfolding joined
    joined_at h =
        bool_cases (eqb h j)
        (λ y. let q = eqb-true _ _ y in inr (rw q (get_or-set_same (set C a (common a j C)) j (common a j C) 0 (lt-length-set C a (common a j C) lj)), inr q))
        (λ n. let o = get_or-set_other (set C a (common a j C)) j h (common a j C) 0 (eqb-false _ _ n) in
        bool_cases (eqb h a)
        (λ y. let q = eqb-true _ _ y in inr (o ∙ rw q (get_or-set_same C a (common a j C) 0 la), inl q))
        (λ m. inl (o ∙ get_or-set_other C a h (common a j C) 0 (eqb-false _ _ m))))

    -- nothing comes in
    pub joined_less : (h b : ℕ) → member b (get_or (joined a j C) h 0) ≡ true → member b (get_or C h 0) ≡ true
    joined_less h b m =
        ⊎_elim
        (λ (e : get_or (joined a j C) h 0 ≡ get_or C h 0). rw e at m)
        (λ w. let s = shared_member (get_or C a 0) (get_or C j 0) b (rw w.0 at m) in
        ⊎_elim (λ (q : h ≡ a). rw q s.0) (λ (q : h ≡ j). rw q s.1) w.1)
        (joined_at h)

    -- what both have is not lost
    pub joined_kept : (v : ℕ → ℕ) → v a ≡ v j → member (v a) (get_or C a 0) ≡ true → member (v j) (get_or C j 0) ≡ true → (h : ℕ) → member (v h) (get_or C h 0) ≡ true → member (v h) (get_or (joined a j C) h 0) ≡ true
    joined_kept v e x y h m =
        ⊎_elim
        (λ (q : get_or (joined a j C) h 0 ≡ get_or C h 0). rw q m)
        (λ w. rw w.0 (at w.1))
        (joined_at h)
      where
        at : (h ≡ a) ⊎ (h ≡ j) → member (v h) (common a j C) ≡ true
        at (inl q) = rw q (member_shared (get_or C a 0) (get_or C j 0) (v a) x (rw e y))
        at (inr q) = rw q (member_shared (get_or C a 0) (get_or C j 0) (v j) (rw (← e) x) y)

    second : (get_or (set C a (common a j C)) j 0 ≡ get_or C j 0) ⊎ ((get_or (set C a (common a j C)) j 0 ≡ common a j C) × (a ≡ j))
    second =
        bool_cases (eqb j a)
        (λ y. let q = eqb-true _ _ y in inr (ap (λ (h : ℕ). get_or (set C a (common a j C)) h 0) q ∙ get_or-set_same C a (common a j C) 0 la, sym q))
        (λ n. inl (get_or-set_other C a j (common a j C) 0 (eqb-false _ _ n)))

    pub joined_falls : differs a j C ≡ true → sum (joined a j C) < sum C
    unfolding joined shared
    joined_falls e =
        let n = eqb-false _ _ (not-true _ e) in
        let u = sum_by-set (λ (x : ℕ). x) C a (common a j C) 0 la in
        let v = sum_by-set (λ (x : ℕ). x) (set C a (common a j C)) j (common a j C) 0 (lt-length-set C a (common a j C) lj) in
        let x = and_le_l (get_or C a 0) (get_or C j 0) in
        let y = and_le_r (get_or C a 0) (get_or C j 0) in
        ⊎_elim
        (λ (q : get_or (set C a (common a j C)) j 0 ≡ get_or C j 0).
        ⊎_elim (λ (z : common a j C ≡ get_or C a 0). ⊎_elim (λ (t : common a j C ≡ get_or C j 0). absurd (n (sym z ∙ t))) (λ (t : common a j C < get_or C j 0). omega arith) (eq-or-lt_of_le y)) (λ (z : common a j C < get_or C a 0). omega arith) (eq-or-lt_of_le x))
        (λ w. absurd (n (ap (λ (h : ℕ). get_or C h 0) w.1)))
        second

    pub joined_sum : sum (joined a j C) ≤ sum C
    joined_sum = bool_cases (differs a j C) (λ y. omega (arith, joined_falls y)) (λ n. rw (joined_same n) (le_refl (sum C)))

module _ (A B C : List ℕ) where
  pub length_passed : (h : ℕ) → length (passed A B h C) ≡ length C
  unfolding passed
  length_passed zero = refl
  length_passed (suc h) =
      length_joined (get_or B h 0) h (joined (get_or A h 0) h (passed A B h C)) ∙ length_joined (get_or A h 0) h (passed A B h C) ∙ length_passed h

  module _ (back_a : NeverAhead A) (back_b : NeverAhead B) where
    -- pair h after the first of its two joins, which are within the sets
    module _ (h : ℕ) (l : h < length C) where
      abbrev once : List ℕ
      once = joined (get_or A h 0) h (passed A B h C)

      in_a : get_or A h 0 < length (passed A B h C)
      in_a = omega (arith, back_a h, length_passed h)

      in_h : h < length (passed A B h C)
      in_h = omega (arith, length_passed h)

      in_b : get_or B h 0 < length once
      in_b = omega (arith, back_b h, length_passed h, length_joined (get_or A h 0) h (passed A B h C))

      in_once : h < length once
      in_once = omega (arith, length_passed h, length_joined (get_or A h 0) h (passed A B h C))

    passed_sum : (h : ℕ) → h ≤ length C → sum (passed A B h C) ≤ sum C
    unfolding passed
    passed_sum zero l = le_refl _
    passed_sum (suc h) l =
        omega (arith, joined_sum (get_or B h 0) h (once h l) (in_b h l) (in_once h l), joined_sum (get_or A h 0) h (passed A B h C) (in_a h l) (in_h h l), passed_sum h (omega arith))

    -- a pass that changes something makes the sum fall
    pub passed_falls : (h : ℕ) → h ≤ length C → stirred A B h C ≡ true → sum (passed A B h C) < sum C
    unfolding passed stirred
    passed_falls zero l e = absurd (both_ways false e refl)
    passed_falls (suc h) l e =
        let s = passed_sum h (omega arith) in
        let x = joined_sum (get_or A h 0) h (passed A B h C) (in_a h l) (in_h h l) in
        let y = joined_sum (get_or B h 0) h (once h l) (in_b h l) (in_once h l) in
        bool_cases (stirred A B h C)
        (λ t. omega (arith, passed_falls h (omega arith) t))
        (λ n. bool_cases (differs (get_or A h 0) h (passed A B h C))
        (λ t. omega (arith, joined_falls (get_or A h 0) h (passed A B h C) (in_a h l) (in_h h l) t))
        (λ k. omega (arith, joined_falls (get_or B h 0) h (once h l) (in_b h l) (in_once h l) (rw (n, k) at e))))

  -- one that changes nothing leaves each pair with the sets that it is tied to
  pub passed_still : (h : ℕ) → stirred A B h C ≡ false
      → (passed A B h C ≡ C) × ((j : ℕ) → j < h → (get_or C (get_or A j 0) 0 ≡ get_or C j 0) × (get_or C (get_or B j 0) 0 ≡ get_or C j 0))
  unfolding passed stirred
  passed_still zero e = (refl, λ j k. absurd (omega arith))
  passed_still (suc h) e =
      let r = or_false_l (stirred A B h C || differs (get_or A h 0) h (passed A B h C)) _ e in
      let db = or_false_r (stirred A B h C || differs (get_or A h 0) h (passed A B h C)) _ e in
      let w = passed_still h (or_false_l (stirred A B h C) _ r) in
      let da = or_false_r (stirred A B h C) _ r in
      let one : joined (get_or A h 0) h (passed A B h C) ≡ C = joined_same (get_or A h 0) h (passed A B h C) da ∙ w.0 in (
        joined_same (get_or B h 0) h (joined (get_or A h 0) h (passed A B h C)) db ∙ one,
        λ j k.
            ⊎_elim
            (λ (q : j ≡ h). rw q (eqb-true _ _ (not-false _ (rw w.0 at da)), eqb-true _ _ (not-false _ (rw one at db))))
            (λ (q : j < h). w.1 j q)
            (eq-or-lt_of_le (le_of_suc-le-suc k)),
      )
