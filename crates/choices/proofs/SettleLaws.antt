-- Settled candidates decide: if a set is empty there is no choice, else their lowest members are the lowest choice; and pass after pass they settle. Assumes nothing.
use mathlib.Core.Path.{◌≡◌, refl, sym, ap, ◌∙◌}
use mathlib.Core.Bool.{Bool, true, false, not}
use mathlib.Core.List.{List, ◌++◌, map}
use mathlib.Core.Logic.{inl, ⊎_elim}
use Prim.Native.Nat.{ℕ, ◌+◌, ◌^◌, ◌≤◌, ◌<◌}
use native.Mathlib.Nat.{le_antisymm}
use native.Mathlib.Omega.{arith}
use borrow.Author.Tests.{eqb-true, eq-eqb}
use lib.Count.{count_trailing_zeros}
use lib.Dec.{eqb}
use lib.ListN.{length, get_or, take, length-append, get_or-append}
use Rattle.std.specs.Prelude.{nat_eq}
use Rattle.std.specs.List.{list_any}
use Rattle.std.proofs.lemmas.List.Folds.{Any-from_list_any, list_any_at}
use Rattle.letters.specs.Letters.{member, single}
use Rattle.letters.proofs.Truth.{bool_cases, both_ways}
use Rattle.letters.proofs.DigitLaws.{digit_zero, some_digit, below_power}
use Rattle.letters.proofs.LetterLaws.{digit_member, no_member, single_one}
use Rattle.letters.proofs.LowestLaws.{low}
use Rattle.shifts.specs.Least.{least}
use Rattle.shifts.proofs.LeastLaws.{least_is, least_low, least_at}
use Rattle.choices.specs.Choices.{Chosen, bound_at, lowest_of, lowest_at}
use Rattle.choices.specs.Candidates.{Candidates, stands_at, Tied, passed, stirred, Settled, low_member, Lowest}
use Rattle.choices.proofs.ChoiceLaws.{low_member_lem, low_least, member_less}
use Rattle.choices.proofs.LowestLaws.{map_each, lowest_least, lowest_given}
use Rattle.choices.proofs.BoundLaws.{test_bound, bound_test}
use Rattle.choices.proofs.JoinLaws.{passed_still}
use Rattle.choices.proofs.TieLaws.{stands_in, stands_above, stands_under, pass_settles}

-- a set that is not empty has its lowest member
some_low : (c : ℕ) → (c ≡ 0 → ⊥) → member (low_member c) c ≡ true
some_low c n = let w = some_digit c c (below_power c) n in low_member_lem c w.0 (digit_member w.0 c w.2)

-- it is what trailing zeros find
pub low_zeros : (K c : ℕ) → 0 < c → c < 2 ^ K → count_trailing_zeros K c ≡ low_member c
unfolding low_member
low_zeros K c p h =
    let w = low K c p h in
    let m = digit_member (count_trailing_zeros K c) c w.member in
    sym (least_is (λ b. member b c) 0 c (count_trailing_zeros K c) (omega arith) (omega (arith, member_less (count_trailing_zeros K c) c m)) (λ j u v. no_member j c (w.below j v)) m)

module _ (P T : List ℕ) (i : ℕ) (C : List ℕ) where
  -- an empty set: no choice
  pub settled_none : Candidates P T i C → (j : ℕ) → j < length P → get_or C j 0 ≡ 0 → bound_at P T i ≡ false
  settled_none w j l z =
      bool_cases (bound_at P T i)
      (λ y. let h = test_bound P T i y in
      let m = rw z at (w.kept h.choice h.right j l) in
      absurd (both_ways _ m (no_member (h.choice (get_or P j 0)) 0 (digit_zero (h.choice (get_or P j 0))))))
      (λ n. n)

  module _ (s : Settled P T i C) (full : (j : ℕ) → j < length P → get_or C j 0 ≡ 0 → ⊥) where
    -- the choice: for each letter the lowest member of the first pair at which it stands
    abbrev picked : ℕ → ℕ
    picked c = low_member (get_or C (least (stands_at P T i c) 0 (length P)) 0)

    low_at : (j : ℕ) → j < length P → member (low_member (get_or C j 0)) (get_or C j 0) ≡ true
    low_at j l = some_low (get_or C j 0) (full j l)

    -- what stands at a pair is a member of every letter that stands there
    low_in : (c j : ℕ) → j < length P → stands_at P T i c j ≡ true → member (low_member (get_or C j 0)) c ≡ true
    low_in c j l e =
        ⊎_elim
        (λ (q : get_or P j 0 ≡ c). rw (← q) (s.cands.above j (low_member (get_or C j 0)) l (low_at j l)))
        (λ (q : get_or T (i + j) 0 ≡ c). rw (← q) (s.cands.under j (low_member (get_or C j 0)) l (low_at j l)))
        (stands_in P T i c j e)

    -- it is the same wherever the letter stands
    low_same : (c j h : ℕ) → j < length P → h < length P → stands_at P T i c j ≡ true → stands_at P T i c h ≡ true → low_member (get_or C j 0) ≡ low_member (get_or C h 0)
    low_same c j h l k x y =
        bool_cases (single c)
        (λ e. let o = (single_one c e).1 in o.only _ (low_in c j l x) ∙ sym (o.only _ (low_in c h k y)))
        (λ n. ap low_member (s.tied c j h n l k x y))

    picked_at : (c j : ℕ) → j < length P → stands_at P T i c j ≡ true → picked c ≡ low_member (get_or C j 0)
    picked_at c j l e =
        let b = least_low (stands_at P T i c) 0 (length P) j (omega arith) e in
        low_same c (least (stands_at P T i c) 0 (length P)) j (omega arith) l (least_at (stands_at P T i c) 0 (length P) (omega arith)) e

    picked_chosen : Chosen P T i picked
    picked_chosen =
        record {
          above = λ j l. rw (picked_at (get_or P j 0) j l (stands_above P T i j)) (low_in (get_or P j 0) j l (stands_above P T i j));
          under = λ j l. rw (picked_at (get_or T (i + j) 0) j l (stands_under P T i j)) (low_in (get_or T (i + j) 0) j l (stands_under P T i j));
          agree = λ j l. picked_at (get_or P j 0) j l (stands_above P T i j) ∙ sym (picked_at (get_or T (i + j) 0) j l (stands_under P T i j));
        }

    -- no set is empty: there is a choice
    pub settled_some : i + length P ≤ length T → bound_at P T i ≡ true
    settled_some l = bound_test P T i (record { fits = l; choice = picked; right = picked_chosen })

    -- and the lowest is the lowest member of each set
    pub settled_lowest : Lowest P T i C
    settled_lowest =
        record {
          room = s.cands.room;
          full = full;
          least = λ j l.
              let g = lowest_given P T i picked picked_chosen (get_or P j 0) (j, l, inl refl) in
              le_antisymm
              (rw (← g.2) (low_least (get_or C j 0) (g.0 (get_or P j 0)) (s.cands.kept g.0 g.1 j l)))
              (rw (← picked_at (get_or P j 0) j l (stands_above P T i j)) (lowest_least P T i picked picked_chosen (get_or P j 0) (j, l, inl refl)));
        }

-- what is written for a start: the lowest members of its sets
pub lowest_written : (P T : List ℕ) (i : ℕ) (C : List ℕ) → Lowest P T i C → map low_member (take (length P) C) ≡ lowest_at P T i
unfolding lowest_at
lowest_written P T i C w = map_each low_member (lowest_of P T i) P C w.room w.least

-- what lies behind the sets of the pairs says nothing
pub lowest_front : (P T : List ℕ) (i : ℕ) (C R : List ℕ) → length C ≡ length P → Lowest P T i C → Lowest P T i (C ++ R)
lowest_front P T i C R e w =
    record {
      room = omega (arith, e, length-append C R);
      full = λ j l z. w.full j l (sym (get_or-append C R 0 j (omega (arith, e, l))) ∙ z);
      least = λ j l. rw (get_or-append C R 0 j (omega (arith, e, l))) (w.least j l);
    }

module _ (P T : List ℕ) (i : ℕ) where
  -- a pass that changes nothing leaves the sets as they were, and settled
  pub still_settled : (A B C D : List ℕ) → Tied P T i A B → Candidates P T i C → length C ≡ length P → stirred A B (length C) C ≡ false → D ≡ passed A B (length C) C → Settled P T i D
  still_settled A B C D t w r e d =
      rw (d, (passed_still A B C (length C) e).0) (pass_settles P T i A B t C w (rw (← r) e))

  -- what the sets that are left say
  pub settled_end : (C : List ℕ) → Settled P T i C → length C ≡ length P → i + length P ≤ length T → (r : Bool) → r ≡ not (list_any (λ x. nat_eq x 0) C) → (r ≡ bound_at P T i) × (r ≡ true → Lowest P T i C)
  settled_end C s m l r e =
      bool_cases (list_any (λ x. nat_eq x 0) C)
      (λ y. let q = some_at C y in
      let f : r ≡ false = e ∙ ap not y in
      (f ∙ sym (settled_none P T i C s.cands q.0 (omega (arith, q.1, m)) q.2), λ t. absurd (both_ways r t f)))
      (λ n. let full : (j : ℕ) → j < length P → get_or C j 0 ≡ 0 → ⊥ = (λ j k z. both_ways _ (list_any_at (λ x. nat_eq x 0) C j 0 (omega (arith, m)) (eq-eqb _ _ z)) n) in
      (e ∙ ap not n ∙ sym (settled_some P T i C s full l), λ t. settled_lowest P T i C s full))
    where
      some_at : (D : List ℕ) → list_any (λ x. nat_eq x 0) D ≡ true → (j : ℕ) × (j < length D) × (get_or D j 0 ≡ 0)
      some_at D y = let q = Any-from_list_any (λ x. nat_eq x 0) D y in let z = eqb-true _ _ q.4 in (q.0, q.2, rw z at q.3)
