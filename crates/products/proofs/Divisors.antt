-- Divisors: what divides a product, and what a prime divides. Assumes nothing.
use mathlib.Core.Path.{◌≡◌, sym, ap, ◌∙◌, subst}
use mathlib.Core.Logic.{◌⊎◌, inl, inr, ⊎_elim}
use mathlib.Core.Bool.{Bool, true, false, ◌&&◌, ◌||◌}
use Prim.Native.Nat.{ℕ, zero, suc, ◌+◌, ◌*◌, ◌/◌, ◌%◌, ◌<◌, ◌∣◌}
use native.Mathlib.Nat.{dvd_of_mod-eq-zero, mod-eq-zero_of_dvd, dvd-mul_right, mul-div_cancel', div-add-mod, add-mul, mul_assoc, mul_comm, mul_left_comm, mul-add-mod_self_left, mod-lt, not-suc-le-zero, eq-or-lt_of_le, le_of_suc-le-suc, eq_of_mul-eq-mul_left}
use borrow.Author.Tests.{eqb-true, eq-eqb}
use lib.Dec.{T, eqb, eqb→eq}
use Rattle.products.specs.Primes.{divides}

pub divides_true : (d n : ℕ) → divides d n ≡ true → d ∣ n
unfolding divides
divides_true d n e = dvd_of_mod-eq-zero d (eqb-true (n % d) 0 e)

pub true_divides : (d n : ℕ) → d ∣ n → divides d n ≡ true
unfolding divides
true_divides d n h = eq-eqb (n % d) 0 (mod-eq-zero_of_dvd d h)

mod_mul : (p a b : ℕ) → a * b % p ≡ (a % p) * b % p
mod_mul p a b =
    ap (λ (x : ℕ). x * b % p) (sym (div-add-mod a p))
    ∙ ap (λ (x : ℕ). x % p) (add-mul (p * (a / p)) (a % p) b ∙ ap (λ (x : ℕ). x + (a % p) * b) (mul_assoc p (a / p) b))
    ∙ mul-add-mod_self_left p (a / p * b) ((a % p) * b)

residues : (p a b : ℕ) → a * b % p ≡ (a % p) * (b % p) % p
residues p a b =
    mod_mul p a b
    ∙ ap (λ (x : ℕ). x % p) (mul_comm (a % p) b)
    ∙ mod_mul p b (a % p)
    ∙ ap (λ (x : ℕ). x % p) (mul_comm (b % p) (a % p))

-- a test at every number below n, which is computed
abbrev pub below : ℕ → (ℕ → Bool) → Bool
below zero f = true
below (suc n) f = f n && below n f

pub and_l : (a b : Bool) → T (a && b) → T a
and_l true b t = tt
and_l false b t = t

pub and_r : (a b : Bool) → T (a && b) → T b
and_r true b t = t
and_r false b t = absurd t

or_cases : (a b : Bool) → T (a || b) → T a ⊎ T b
or_cases true b t = inl tt
or_cases false b t = inr t

pub below_at : (n : ℕ) (f : ℕ → Bool) → T (below n f) → (k : ℕ) → k < n → T (f k)
below_at zero f t k h = absurd (not-suc-le-zero h)
below_at (suc n) f t k h =
    ⊎_elim
    (λ e. subst (λ (x : ℕ). T (f x)) (sym e) (and_l (f n) (below n f) t))
    (λ l. below_at n f (and_r (f n) (below n f) t) k l)
    (eq-or-lt_of_le (le_of_suc-le-suc h))

-- the second test wherever the first holds
abbrev pub implies : Bool → Bool → Bool
implies true b = b
implies false b = true

pub implied : (a b : Bool) → T (implies a b) → T a → T b
implied true b t u = t
implied false b t u = absurd u

-- a product of two residues is 0 only where one of them is
abbrev pub prime_test : ℕ → Bool
prime_test p = below p (λ r. below p (λ s. implies (eqb (r * s % p) 0) (eqb r 0 || eqb s 0)))

abbrev pub Prime : ℕ → Type 0
Prime p = (a b : ℕ) → p ∣ a * b → (p ∣ a) ⊎ (p ∣ b)

pub prime_by : (p : ℕ) → 0 < p → T (prime_test p) → Prime p
prime_by p h t a b d =
    let r = a % p in
    let s = b % p in
    let u =
    below_at p (λ s. implies (eqb (r * s % p) 0) (eqb r 0 || eqb s 0))
    (below_at p (λ r. below p (λ s. implies (eqb (r * s % p) 0) (eqb r 0 || eqb s 0))) t r (mod-lt a h)) s (mod-lt b h) in
    let z : r * s % p ≡ 0 = sym (residues p a b) ∙ mod-eq-zero_of_dvd p d in
    let v = implied (eqb (r * s % p) 0) (eqb r 0 || eqb s 0) u (subst (λ (x : ℕ). T (eqb x 0)) (sym z) tt) in
    ⊎_elim (λ x. inl (dvd_of_mod-eq-zero p (eqb→eq r 0 x))) (λ x. inr (dvd_of_mod-eq-zero p (eqb→eq s 0 x))) (or_cases (eqb r 0) (eqb s 0) v)

-- a divisor of p * n is divided by p, or divides n
pub strip : (p n g : ℕ) → 0 < p → Prime p → g ∣ p * n → (p ∣ g) ⊎ (g ∣ n)
strip p n g h pr d =
    let q = p * n / g in
    let e : p * n ≡ g * q = sym (mul-div_cancel' g d) in
    ⊎_elim (λ x. inl x)
    (λ x. let f : q ≡ p * (q / p) = sym (mul-div_cancel' p x) in
    let k : p * n ≡ p * (g * (q / p)) = e ∙ ap (λ (y : ℕ). g * y) f ∙ mul_left_comm g p (q / p) in
    inr (subst (λ (y : ℕ). g ∣ y) (sym (eq_of_mul-eq-mul_left p h n (g * (q / p)) k)) (dvd-mul_right g (q / p))))
    (pr g q (subst (λ (y : ℕ). p ∣ y) e (dvd-mul_right p n)))
