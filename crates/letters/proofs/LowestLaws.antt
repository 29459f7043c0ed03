-- The lowest set digit, which trailing zeros find, and what is left without it. Assumes nothing.
use mathlib.Core.Path.{◌≡◌, refl, ap, ◌∙◌, subst}
use mathlib.Core.Logic.{◌⊎◌, inl, inr}
use Prim.Native.Nat.{ℕ, zero, suc, ◌-◌, ◌/◌, ◌%◌, ◌^◌, ◌<◌}
use native.Mathlib.Nat.{zero-lt-suc, eq-zero-or-pos, pow-suc, not-suc-le-zero}
use native.Mathlib.Omega.{arith}
use lib.Arith.{lt-one}
use lib.Bits.{bit_and, and_step}
use lib.Count.{count_trailing_zeros}
use Rattle.letters.specs.Digits.{digit}
use Rattle.letters.proofs.DigitLaws.{digit_and}

-- t is the lowest set digit of x, a number of k digits; the others stay when it is cleared
pub record Low (k x t : ℕ) : Type 0 where
  pub within : t < k
  pub member : digit t x ≡ 1
  pub below : (j : ℕ) → j < t → digit j x ≡ 0
  pub gone : digit t (bit_and x (x - 1)) ≡ 0
  pub stays : (j : ℕ) → (j ≡ t → ⊥) → digit j (bit_and x (x - 1)) ≡ digit j x

low_odd : (k x : ℕ) → x % 2 ≡ 1 → Low (suc k) x 0
unfolding digit
low_odd k x e =
    record {
      within = zero-lt-suc k;
      member = e;
      below = λ j l. absurd (not-suc-le-zero l);
      gone = let a = digit_and 0 x (x - 1) in omega arith;
      stays = other;
    }
  where
    other : (j : ℕ) → (j ≡ 0 → ⊥) → digit j (bit_and x (x - 1)) ≡ digit j x
    other zero n = absurd (n refl)
    other (suc j) n =
        let d : (x - 1) / 2 ≡ x / 2 = omega arith in
        let a = digit_and (suc j) x (x - 1) in
        let b : digit j ((x - 1) / 2) ≡ digit j (x / 2) = ap (digit j) d in
        omega arith

low_even : (k x t : ℕ) → x % 2 ≡ 0 → 0 < x → Low k (x / 2) t → Low (suc k) x (suc t)
unfolding digit
low_even k x t e p ih =
    record {
      within = omega (arith, ih.within);
      member = ih.member;
      below = under;
      gone = ap (digit t) half ∙ ih.gone;
      stays = other;
    }
  where
    half : bit_and x (x - 1) / 2 ≡ bit_and (x / 2) (x / 2 - 1)
    half =
        let s = and_step x (x - 1) in
        let d : (x - 1) / 2 ≡ x / 2 - 1 = omega arith in
        subst (λ (y : ℕ). bit_and x (x - 1) / 2 ≡ bit_and (x / 2) y) d (omega arith)

    under : (j : ℕ) → j < suc t → digit j x ≡ 0
    under zero l = e
    under (suc j) l = ih.below j (omega arith)

    other : (j : ℕ) → (j ≡ suc t → ⊥) → digit j (bit_and x (x - 1)) ≡ digit j x
    other zero n = let a = digit_and 0 x (x - 1) in omega arith
    other (suc j) n = ap (digit j) half ∙ ih.stays j (λ q. n (ap suc q))

pub low : (k x : ℕ) → 0 < x → x < 2 ^ k → Low k x (count_trailing_zeros k x)
unfolding count_trailing_zeros
low zero x p h = absurd (let e = lt-one h in omega arith)
low (suc k) x p h = go (λ q. low k (x / 2) q (let e = pow-suc 2 k in omega arith)) (eq-zero-or-pos (x % 2))
  where
    go : (0 < x / 2 → Low k (x / 2) (count_trailing_zeros k (x / 2))) → (x % 2 ≡ 0) ⊎ (0 < x % 2) → Low (suc k) x (count_trailing_zeros (suc k) x)
    go ih (inl e) = rw e (low_even k x (count_trailing_zeros k (x / 2)) e p (ih (omega arith)))
    go ih (inr q) = let e : x % 2 ≡ 1 = omega arith in rw e (low_odd k x e)
