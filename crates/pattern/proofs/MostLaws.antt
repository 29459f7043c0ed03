-- The greatest value over the members of a letter, which each digit of a union of rows is. Assumes nothing.
use mathlib.Core.Path.{◌≡◌, refl, ap, ◌∙◌}
use mathlib.Core.Bool.{true}
use mathlib.Core.List.{List, [], ◌∷◌}
use mathlib.Core.Logic.{⊎_elim}
use Prim.Native.Nat.{ℕ, zero, suc, ◌+◌, ◌^◌, ◌≤◌, ◌<◌, max}
use native.Mathlib.Nat.{eq-or-lt_of_le}
use native.Mathlib.Omega.{arith}
use borrow.Author.Tests.{leb-true, leb-false}
use lib.Bits.{bit_or}
use lib.Dec.{leb}
use lib.ListN.{get_or}
use Rattle.letters.specs.Digits.{digit}
use Rattle.letters.specs.Letters.{member}
use Rattle.letters.specs.Members.{members_from, members, walked}
use Rattle.letters.proofs.Truth.{bool_cases}
use Rattle.letters.proofs.DigitLaws.{digit_or, digit_above}
use Rattle.letters.proofs.LetterLaws.{member_digit}

-- the greatest of x and of f over some places
abbrev pub most : (ℕ → ℕ) → ℕ → List ℕ → ℕ
most f x bs = walked (λ y b. max y (f b)) x bs

-- a member lies within the alphabet
pub member_below : (k c b : ℕ) → c < 2 ^ k → member b c ≡ true → b < k
member_below k c b h m =
    bool_cases (leb k b)
    (λ y. absurd (let z = digit_above k b c h (leb-true _ _ y) in let d = member_digit b c m in omega arith))
    (λ n. leb-false _ _ n)

module _ (f : ℕ → ℕ) (c : ℕ) where
  most_ge : (x : ℕ) (bs : List ℕ) → x ≤ most f x bs
  unfolding walked
  most_ge x [] = omega arith
  most_ge x (b ∷ bs) = omega (arith, most_ge (max x (f b)) bs)

  -- it bounds f at every member
  pub most_upper : (k b : ℕ) → b < k → member b c ≡ true → f b ≤ most f 0 (members k c)
  unfolding members members_from walked
  most_upper k b l m = go 0 k 0 (omega arith) (omega arith)
    where
      go : (a s x : ℕ) → a ≤ b → b < a + s → f b ≤ most f x (members_from c a s)
      go a zero x u v = absurd (omega arith)
      go a (suc s) x u v =
          ⊎_elim
          (λ (q : a ≡ b). rw (q, m) (omega (arith, most_ge (max x (f b)) (members_from c (suc b) s))))
          (λ (q : a < b). bool_cases (member a c)
          (λ y. rw y (go (suc a) s (max x (f a)) q (omega arith)))
          (λ n. rw n (go (suc a) s x q (omega arith))))
          (eq-or-lt_of_le u)

  -- and nothing less does
  pub most_least : (k top : ℕ) → ((b : ℕ) → b < k → member b c ≡ true → f b ≤ top) → most f 0 (members k c) ≤ top
  unfolding members members_from walked
  most_least k top h = go 0 k 0 (omega arith) (omega arith)
    where
      go : (a s x : ℕ) → a + s ≤ k → x ≤ top → most f x (members_from c a s) ≤ top
      go a zero x u v = v
      go a (suc s) x u v =
          bool_cases (member a c)
          (λ y. rw y (go (suc a) s (max x (f a)) (omega arith) (let w = h a (omega arith) y in omega arith)))
          (λ n. rw n (go (suc a) s x (omega arith) v))

-- each digit of a union is such a greatest
pub union_most : (j : ℕ) (tab bs : List ℕ) (x : ℕ) → digit j (walked (λ all b. bit_or all (get_or tab b 0)) x bs) ≡ most (λ b. digit j (get_or tab b 0)) (digit j x) bs
unfolding walked
union_most j tab [] x = refl
union_most j tab (b ∷ bs) x =
    union_most j tab bs (bit_or x (get_or tab b 0)) ∙ ap (λ (y : ℕ). most (λ b. digit j (get_or tab b 0)) y bs) (digit_or j x (get_or tab b 0))
