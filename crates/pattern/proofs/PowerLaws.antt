-- The digits of a power: one place, as a word holds it. Assumes nothing.
use mathlib.Core.Path.{◌≡◌, refl, sym, ap, ◌∙◌}
use Prim.Native.Nat.{ℕ, zero, suc, ◌*◌, ◌/◌, ◌%◌, ◌^◌, ◌≤◌, ◌<◌}
use native.Mathlib.Nat.{pow-suc, one-mul, mod-eq_of_lt, lt_of_lt_of_le}
use native.Mathlib.Omega.{arith}
use mathlib.Core.List.{List}
use lib.ListN.{length}
use lib.Pow.{pow-lt}
use Rattle.letters.specs.Sizes.{SizedPattern}
use Rattle.letters.specs.Digits.{digit}
use Rattle.letters.proofs.DigitLaws.{digit_zero, digit_lt}

pub power_self : (i : ℕ) → digit i (2 ^ i) ≡ 1
unfolding digit
power_self zero = refl
power_self (suc i) = let p = pow-suc 2 i in let h : 2 ^ suc i / 2 ≡ 2 ^ i = omega arith in ap (digit i) h ∙ power_self i

pub power_only : (i j : ℕ) → digit j (2 ^ i) ≡ 1 → j ≡ i
unfolding digit
power_only zero zero h = refl
power_only zero (suc j) h = absurd (let z : digit j 0 ≡ 0 = digit_zero j in let e : digit j (2 ^ 0 / 2) ≡ digit j 0 = refl in omega arith)
power_only (suc i) zero h = absurd (let p = pow-suc 2 i in omega arith)
power_only (suc i) (suc j) h =
    let p = pow-suc 2 i in
    let e : 2 ^ suc i / 2 ≡ 2 ^ i = omega arith in
    ap suc (power_only i j (sym (ap (digit j) e) ∙ h))

pub power_other : (i j : ℕ) → (j ≡ i → ⊥) → digit j (2 ^ i) ≡ 0
power_other i j n = let l = digit_lt j (2 ^ i) in let o : (digit j (2 ^ i) ≡ 1 → ⊥) = (λ q. n (power_only i j q)) in omega arith

-- the place of letter h, as code shifts it: a word has room for each
pub place_word : {M : ℕ} {P : List ℕ} → SizedPattern M P → (h : ℕ) → h < length P → 2 ^ M ≤ 2 ^ 64 → 1 * 2 ^ h % 2 ^ 64 ≡ 2 ^ h
place_word {M} w h l k =
    ap (λ (x : ℕ). x % 2 ^ 64) (one-mul (2 ^ h)) ∙ mod-eq_of_lt (lt_of_lt_of_le (pow-lt (lt_of_lt_of_le l w.short)) k)
