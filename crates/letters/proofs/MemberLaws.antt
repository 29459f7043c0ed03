-- The loop over members: taking the lowest and going on without it visits the members in order. Assumes nothing.
use mathlib.Core.Path.{◌≡◌, refl, sym, ap}
use mathlib.Core.Bool.{true, false}
use mathlib.Core.List.{List, [], ◌∷◌}
use mathlib.Core.Logic.{⊎_elim}
use Prim.Native.Nat.{ℕ, zero, suc, ◌+◌, ◌-◌, ◌^◌, ◌≤◌, ◌<◌}
use native.Mathlib.Nat.{eq-or-lt_of_le}
use native.Mathlib.Omega.{arith}
use lib.Bits.{bit_and}
use lib.Count.{count_trailing_zeros}
use lib.Dec.{eqb}
use Rattle.letters.specs.Letters.{member}
use Rattle.letters.proofs.Truth.{bool_cases}
use Rattle.letters.specs.Members.{members_from, members}
use Rattle.letters.proofs.DigitLaws.{digit_zero}
use Rattle.letters.proofs.LetterLaws.{digit_member, no_member}
use Rattle.letters.proofs.LowestLaws.{low}

-- letters with the same members among those from b on
from_same : (x y b f : ℕ) → ((j : ℕ) → b ≤ j → member j x ≡ member j y) → members_from x b f ≡ members_from y b f
unfolding members_from
from_same x y b zero h = refl
from_same x y b (suc f) h = rw (h b (omega arith), from_same x y (suc b) f (λ j l. h j (omega arith)))

none_from : (x b f : ℕ) → ((j : ℕ) → member j x ≡ false) → members_from x b f ≡ []
unfolding members_from
none_from x b zero h = refl
none_from x b (suc f) h = rw (h b) (none_from x (suc b) f h)

-- t is the lowest member, and y has the others
module _ (x y t : ℕ) (has : member t x ≡ true) (below : (j : ℕ) → j < t → member j x ≡ false) (gone : member t y ≡ false)
    (stays : (j : ℕ) → (j ≡ t → ⊥) → member j y ≡ member j x) where
  from_lowest : (b f : ℕ) → b ≤ t → t < b + f → members_from x b f ≡ t ∷ members_from y b f
  unfolding members_from
  from_lowest b zero l h = absurd (omega arith)
  from_lowest b (suc f) l h =
      ⊎_elim
      (λ (q : b ≡ t). rw (q, has, gone) (ap (λ (xs : List ℕ). t ∷ xs) (from_same x y (suc t) f (λ j k. sym (stays j (λ z. omega arith))))))
      (λ (q : b < t).
      rw (stays b (λ z. omega arith), below b q) (from_lowest (suc b) f q (omega arith)))
      (eq-or-lt_of_le l)

-- a letter's members are the lowest, which trailing zeros find, and those of the rest
pub members_walk : (k c : ℕ) → 0 < c → c < 2 ^ k → members k c ≡ count_trailing_zeros k c ∷ members k (bit_and c (c - 1))
unfolding members member
members_walk k c p h =
    let w = low k c p h in
    from_lowest c (bit_and c (c - 1)) (count_trailing_zeros k c)
    (digit_member (count_trailing_zeros k c) c w.member)
    (λ j l. no_member j c (w.below j l))
    (no_member (count_trailing_zeros k c) (bit_and c (c - 1)) w.gone)
    (λ j n. ap (λ (d : ℕ). eqb d 1) (w.stays j n))
    0 k (omega arith) (omega (arith, w.within))

pub members_none : (k : ℕ) → members k 0 ≡ []
unfolding members
members_none k = none_from 0 0 k (λ j. no_member j 0 (digit_zero j))

-- a member among those from a on lies among them
from_below : (c a f : ℕ) {b : ℕ} {bs : List ℕ} → members_from c a f ≡ b ∷ bs → b < a + f
unfolding members_from
from_below c a zero e = cc
from_below c a (suc f) {b} e =
    bool_cases (member a c)
    (λ y. let z : a ≡ b = ap head (rw y at e) in omega arith)
    (λ n. omega (arith, from_below c (suc a) f (rw n at e)))
  where
    head : List ℕ → ℕ
    head [] = 0
    head (x ∷ xs) = x

pub next_below : (k c : ℕ) {b : ℕ} {bs : List ℕ} → members k c ≡ b ∷ bs → b < k
unfolding members
next_below k c e = omega (arith, from_below c 0 k e)
