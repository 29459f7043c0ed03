-- Which letters a string may have; and whether it has another, by a pass that joins all letters. Assumes nothing.
use mathlib.Core.Path.{◌≡◌, refl, sym, ap, ◌∙◌}
use mathlib.Core.Bool.{Bool, true, false, not, or-true}
use mathlib.Core.Logic.{⊎_elim}
use mathlib.Core.List.{List}
use Prim.Native.Nat.{ℕ, ◌+◌, ◌*◌, ◌%◌, ◌^◌, ◌≤◌, ◌<◌}
use native.Mathlib.Nat.{eq-or-lt_of_le, lt_of_le_of_lt, one-mul, mod-eq_of_lt}
use native.Mathlib.Omega.{arith}
use borrow.Author.Tests.{eq-eqb, ne_eqb, leb-true, leb-false, le-leb, lt-leb, lt-ltb, ltb-true, ltb-false, not-true, not-false}
use lib.Bits.{bit_or, or_lt, or_add_and, and_le_l, and_le_r}
use lib.Dec.{eqb, leb, ltb}
use lib.ListN.{length, get_or}
use lib.Pow.{pow_pos, pow-lt}
use Rattle.letters.proofs.Truth.{bool_cases, both_ways}
use Rattle.letters.specs.First.{first_with}
use Rattle.letters.proofs.FirstLaws.{first_some, first_none, first_all}
use Rattle.inputs.specs.Refusals.{bad}

module _ (k : ℕ) where
  -- whether marks may stand or not, a letter of a string is below 2 ^ k
  pub bad_high : (marks : Bool) (x : ℕ) → 2 ^ k ≤ x → bad marks k x ≡ true
  unfolding bad
  bad_high false x l = rw (le-leb (2 ^ k) x l) (or-true (eqb x 0))
  bad_high true x l = le-leb (2 ^ k) x l

  -- by cases: 0, and any other
  pub bad_zero : (marks : Bool) (x : ℕ) → x ≡ 0 → not marks ≡ bad marks k x
  unfolding bad
  bad_zero false x e = rw (eq-eqb x 0 e)
  bad_zero true x e = rw e (sym (lt-leb (2 ^ k) 0 (pow_pos k)))

  pub bad_some : (marks : Bool) (x : ℕ) → (x ≡ 0 → ⊥) → leb (2 ^ k) x ≡ bad marks k x
  unfolding bad
  bad_some false x n = rw (ne_eqb x 0 n)
  bad_some true x n = refl

  pub good_small : (marks : Bool) (x : ℕ) → bad marks k x ≡ false → x < 2 ^ k
  good_small marks x e = bool_cases (leb (2 ^ k) x) (λ y. absurd (both_ways (bad marks k x) (bad_high marks x (leb-true _ _ y)) e)) (λ n. leb-false _ _ n)

  -- and is 0 only where they may
  pub good_mark : (marks : Bool) (x : ℕ) → bad marks k x ≡ false → x ≡ 0 → marks ≡ true
  unfolding bad
  good_mark true x e z = refl
  good_mark false x e z = absurd (both_ways (bad false k x) (rw (eq-eqb x 0 z)) e)

  pub good : (marks : Bool) (x : ℕ) → (x ≡ 0 → marks ≡ true) → x < 2 ^ k → bad marks k x ≡ false
  unfolding bad
  good true x n l = lt-leb (2 ^ k) x l
  good false x n l = rw (ne_eqb x 0 (λ z. both_ways false (n z) refl), lt-leb (2 ^ k) x l)

  -- after i letters: `all` joins them, and `wrong` tells whether one is a mark that may not stand there
  pub record Joined (marks : Bool) (s : List ℕ) (all : ℕ) (wrong : Bool) (i : ℕ) : Type 0 where
    pub upper : (j : ℕ) → j < i → get_or s j 0 ≤ all
    pub fits : ((j : ℕ) → j < i → get_or s j 0 < 2 ^ k) → all < 2 ^ k
    pub right : wrong ≡ false → (j : ℕ) → j < i → get_or s j 0 ≡ 0 → marks ≡ true
    pub found : wrong ≡ true → (marks ≡ false) × ((j : ℕ) × ((j < i) × (get_or s j 0 ≡ 0)))

  module _ (marks : Bool) (s : List ℕ) (all i : ℕ) (wrong : Bool) (q : Joined marks s all wrong i) where
    or_l : (a b : ℕ) → a ≤ bit_or a b
    or_l a b = omega (arith, or_add_and a b, and_le_r a b)

    or_r : (a b : ℕ) → b ≤ bit_or a b
    or_r a b = omega (arith, or_add_and a b, and_le_l a b)

    below : (j : ℕ) → j < i + 1 → j ≤ i
    below j x = omega arith

    upper_on : (j : ℕ) → j < i + 1 → get_or s j 0 ≤ bit_or all (get_or s i 0)
    upper_on j l =
        ⊎_elim (λ (e : j ≡ i). rw e (or_r all (get_or s i 0))) (λ (e : j < i). omega (arith, q.upper j e, or_l all (get_or s i 0))) (eq-or-lt_of_le (below j l))

    fits_on : ((j : ℕ) → j < i + 1 → get_or s j 0 < 2 ^ k) → bit_or all (get_or s i 0) < 2 ^ k
    fits_on h = or_lt k all (get_or s i 0) (q.fits (λ j l. h j (omega arith))) (h i (omega arith))

    pub joined_some : (get_or s i 0 ≡ 0 → ⊥) → Joined marks s (bit_or all (get_or s i 0)) wrong (i + 1)
    joined_some n =
        record {
          upper = upper_on;
          fits = fits_on;
          right = λ e j l z.
              ⊎_elim (λ (y : j ≡ i). absurd (n (ap (λ (x : ℕ). get_or s x 0) (sym y) ∙ z))) (λ (y : j < i). q.right e j y z) (eq-or-lt_of_le (below j l));
          found = λ e. let w = q.found e in (w.0, (w.1.0, (omega (arith, w.1.1.0), w.1.1.1)));
        }

    pub joined_mark : get_or s i 0 ≡ 0 → Joined marks s (bit_or all (get_or s i 0)) (not marks) (i + 1)
    joined_mark z =
        record {
          upper = upper_on;
          fits = fits_on;
          right = λ e j l y. not-false marks e;
          found = λ e. (not-true marks e, (i, (omega arith, z)));
        }

  pub joined_none : (marks : Bool) (s : List ℕ) → Joined marks s 0 false 0
  joined_none marks s =
      record {
        upper = λ j l. absurd (omega arith);
        fits = λ h. pow_pos k;
        right = λ e j l. absurd (omega arith);
        found = λ e. absurd (both_ways false e refl);
      }

  -- all letters joined
  module _ (marks : Bool) (s : List ℕ) (all : ℕ) (wrong : Bool) (q : Joined marks s all wrong (length s)) where
    pub any_mark : wrong ≡ true → true ≡ ltb (first_with (bad marks k) s) (length s)
    any_mark e =
        let w = q.found e in
        sym (lt-ltb (first_with (bad marks k) s) (length s) (first_some (bad marks k) s w.1.0 w.1.1.0 (sym (bad_zero marks _ w.1.1.1) ∙ ap not w.0)))

    pub any_high : wrong ≡ false → leb (2 ^ k) all ≡ ltb (first_with (bad marks k) s) (length s)
    any_high e =
        bool_cases (ltb (first_with (bad marks k) s) (length s))
        (λ y. bool_cases (leb (2 ^ k) all) (λ z. z ∙ sym y)
        (λ z. let l : all < 2 ^ k = leb-false _ _ z in
        absurd
        (omega
        (arith, ltb-true (first_with (bad marks k) s) (length s) y, first_none (bad marks k) s (λ j h. good marks (get_or s j 0) (q.right e j h) (lt_of_le_of_lt (q.upper j h) l))))))
        (λ n. lt-leb (2 ^ k) all (q.fits (λ j h. good_small marks (get_or s j 0) (first_all (bad marks k) s (ltb-false _ _ n) j h))) ∙ sym n)

-- the test against 2 ^ k, as the code makes it in 64 bits
pub one_shifted : (k : ℕ) → k < 64 → 1 * 2 ^ k % 2 ^ 64 ≡ 2 ^ k
one_shifted k h = rw (one-mul (2 ^ k)) (mod-eq_of_lt (pow-lt h))
