-- Laws of `digit`: each operation on numbers, digit by digit. Assumes nothing.
use mathlib.Core.Path.{◌≡◌, refl, sym, ap, ◌∙◌}
use mathlib.Core.Logic.{⊎_elim}
use Prim.Native.Nat.{ℕ, zero, suc, ◌+◌, ◌/◌, ◌%◌, ◌^◌, ◌≤◌, ◌<◌, min, max}
use native.Mathlib.Nat.{eq-zero-or-pos, lt_of_lt_of_le, pow-suc, le_of_suc-le-suc, not-suc-le-zero, zero-lt-suc, div-div-eq-div-mul, mul_comm, div-one}
use native.Mathlib.Omega.{arith}
use lib.Arith.{lt-one}
use lib.Bits.{bit_and, bit_or, and_step, or_step}
use lib.Pow.{pow_mono}
use Rattle.letters.specs.Digits.{digit}

-- the form with a power, as code shifts
pub digit_pow : (j x : ℕ) → digit j x ≡ x / 2 ^ j % 2
unfolding digit
digit_pow zero x = ap (λ (y : ℕ). y % 2) (sym (div-one x))
digit_pow (suc j) x =
    digit_pow j (x / 2)
    ∙ ap (λ (y : ℕ). y % 2) (div-div-eq-div-mul x 2 (2 ^ j) ∙ ap (λ (y : ℕ). x / y) (mul_comm 2 (2 ^ j) ∙ sym (pow-suc 2 j)))

pub digit_lt : (j x : ℕ) → digit j x < 2
unfolding digit
digit_lt zero x = omega arith
digit_lt (suc j) x = digit_lt j (x / 2)

pub digit_zero : (j : ℕ) → digit j 0 ≡ 0
unfolding digit
digit_zero zero = refl
digit_zero (suc j) = digit_zero j

-- the lowest digit, and those above it
pub digit_low : (x : ℕ) → digit 0 x ≡ x % 2
unfolding digit
digit_low x = refl

pub digit_up : (j x : ℕ) → digit (suc j) x ≡ digit j (x / 2)
unfolding digit
digit_up j x = refl

-- a number of k digits has none from k on
pub digit_above : (k j x : ℕ) → x < 2 ^ k → k ≤ j → digit j x ≡ 0
unfolding digit
digit_above zero j x h l = ap (digit j) (lt-one h) ∙ digit_zero j
digit_above (suc k) zero x h l = absurd (not-suc-le-zero l)
digit_above (suc k) (suc j) x h l = digit_above k j (x / 2) (let e = pow-suc 2 k in omega arith) (le_of_suc-le-suc l)

pub digit_and : (j a b : ℕ) → digit j (bit_and a b) ≡ min (digit j a) (digit j b)
unfolding digit
digit_and zero a b = let e = and_step a b in omega arith
digit_and (suc j) a b =
    let h : bit_and a b / 2 ≡ bit_and (a / 2) (b / 2) = (let e = and_step a b in omega arith) in
    ap (digit j) h ∙ digit_and j (a / 2) (b / 2)

pub digit_or : (j a b : ℕ) → digit j (bit_or a b) ≡ max (digit j a) (digit j b)
unfolding digit
digit_or zero a b = let e = or_step a b in omega arith
digit_or (suc j) a b =
    let h : bit_or a b / 2 ≡ bit_or (a / 2) (b / 2) = (let e = or_step a b in omega arith) in
    ap (digit j) h ∙ digit_or j (a / 2) (b / 2)

-- two numbers with the same digits are the same
pub digit_ext : (k x y : ℕ) → x < 2 ^ k → y < 2 ^ k → ((j : ℕ) → j < k → digit j x ≡ digit j y) → x ≡ y
unfolding digit
digit_ext zero x y hx hy e = lt-one hx ∙ sym (lt-one hy)
digit_ext (suc k) x y hx hy e =
    let p = pow-suc 2 k in
    let z : x % 2 ≡ y % 2 = e 0 (zero-lt-suc k) in
    let r : x / 2 ≡ y / 2 = digit_ext k (x / 2) (y / 2) (omega arith) (omega arith) (λ j h. e (suc j) (omega arith)) in
    omega arith

-- a number that is not 0 has a digit 1 somewhere
pub some_digit : (k x : ℕ) → x < 2 ^ k → (x ≡ 0 → ⊥) → (j : ℕ) × (j < k) × (digit j x ≡ 1)
unfolding digit
some_digit zero x h n = absurd (n (lt-one h))
some_digit (suc k) x h n =
    let p = pow-suc 2 k in
    ⊎_elim
    (λ (z : x % 2 ≡ 0).
    let w = some_digit k (x / 2) (omega arith) (λ q. n (omega arith)) in (suc w.0, omega (arith, w.1), w.2))
    (λ (z : 0 < x % 2). (0, omega arith, omega arith))
    (eq-zero-or-pos (x % 2))

-- every number is below a power
pub below_power : (x : ℕ) → x < 2 ^ x
below_power zero = omega arith
below_power (suc x) = let p = pow-suc 2 x in omega (arith, below_power x)

-- two numbers with the same digits are the same, however long they are
pub digits_same : (x y : ℕ) → ((j : ℕ) → digit j x ≡ digit j y) → x ≡ y
digits_same x y e =
    digit_ext (x + y) x y (lt_of_lt_of_le (below_power x) (pow_mono (omega arith))) (lt_of_lt_of_le (below_power y) (pow_mono (omega arith))) (λ j l. e j)
