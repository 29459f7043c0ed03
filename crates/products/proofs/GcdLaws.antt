-- The greatest common divisor: it is divided by every common divisor, and Euclid's remainders find it. Assumes nothing.
use mathlib.Core.Path.{◌≡◌, refl, sym, subst}
use mathlib.Core.Logic.{◌⊎◌, inl, inr, ⊎_elim}
use mathlib.Core.Bool.{true, false, ◌&&◌}
use Prim.Native.Nat.{ℕ, zero, suc, ◌%◌, ◌≤◌, ◌<◌, ◌∣◌, max}
use native.Mathlib.Nat.{dvd_refl, le_of_dvd, pos_of_dvd_of_pos, eq-zero_of_zero-dvd, mod-lt, eq-zero-or-pos, eq-or-lt_of_le, le_antisymm, le_of_suc-le-suc, not-suc-le-zero}
use native.Mathlib.Omega.{arith}
use Rattle.std.specs.Int.{IsGcd}
use Rattle.std.proofs.lemmas.Nat.Gcd.{IsGcd-from_zero, IsGcd-from_mod}
use Rattle.letters.proofs.Truth.{bool_cases, both_ways, and_true_l, and_true_r}
use Rattle.products.specs.Primes.{divides}
use Rattle.products.specs.Gcd.{common_up_to, gcd}
use Rattle.products.proofs.Divisors.{divides_true, true_divides}

-- there is one, since the remainders fall
some_gcd : (n a b : ℕ) → b < n → (g : ℕ) × IsGcd a b g
some_gcd zero a b h = absurd (not-suc-le-zero h)
some_gcd (suc n) a b h =
    ⊎_elim
    (λ (z : b ≡ 0). (a, IsGcd-from_zero a b z))
    (λ (p : 0 < b). let w = some_gcd n b (a % b) (let m = mod-lt a p in omega arith) in (w.0, IsGcd-from_mod a b w.0 w.1))
    (eq-zero-or-pos b)

module _ (a b g : ℕ) (h : IsGcd a b g) where
  -- the search from above comes to g
  found_at : 0 < g → (f : ℕ) → g ≤ f → common_up_to a b f ≡ g
  unfolding common_up_to
  found_at p zero l = absurd (omega arith)
  found_at p (suc f) l =
      bool_cases (divides (suc f) a && divides (suc f) b)
      (λ y.
      let da = divides_true (suc f) a (and_true_l (divides (suc f) a) (divides (suc f) b) y) in
      let db = divides_true (suc f) b (and_true_r (divides (suc f) a) (divides (suc f) b) y) in
      rw y (le_antisymm (le_of_dvd p (h.2 (suc f) da db)) l))
      (λ n. rw n (found_at p f (lower n (eq-or-lt_of_le l))))
    where
      both : g ≡ suc f → (divides (suc f) a && divides (suc f) b) ≡ true
      both e = rw (← e, true_divides g a h.0, true_divides g b h.1)

      lower : (divides (suc f) a && divides (suc f) b) ≡ false → (g ≡ suc f) ⊎ (g < suc f) → g ≤ f
      lower n (inl e) = absurd (both_ways (divides (suc f) a && divides (suc f) b) (both e) n)
      lower n (inr l) = le_of_suc-le-suc l

  -- a common divisor that every other divides is the greatest
  pub gcd_is : gcd a b ≡ g
  unfolding gcd common_up_to
  gcd_is =
      ⊎_elim
      (λ (x : a ≡ 0). ⊎_elim (λ (y : b ≡ 0). none x y) (λ (p : 0 < b). found_at (pos_of_dvd_of_pos h.1 p) (max a b) (let l = le_of_dvd p h.1 in omega arith)) (eq-zero-or-pos b))
      (λ (p : 0 < a). found_at (pos_of_dvd_of_pos h.0 p) (max a b) (let l = le_of_dvd p h.0 in omega arith))
      (eq-zero-or-pos a)
    where
      none : a ≡ 0 → b ≡ 0 → gcd a b ≡ g
      none x y =
          let z : g ≡ 0 = eq-zero_of_zero-dvd (h.2 0 (subst (λ (n : ℕ). 0 ∣ n) (sym x) (dvd_refl 0)) (subst (λ (n : ℕ). 0 ∣ n) (sym y) (dvd_refl 0))) in
          rw (x, y) (sym z)

pub is_gcd : (a b : ℕ) → IsGcd a b (gcd a b)
is_gcd a b = let w = some_gcd (suc b) a b (omega arith) in subst (λ (g : ℕ). IsGcd a b g) (sym (gcd_is a b w.0 w.1)) w.1

-- Euclid's two rules
pub gcd_zero : (a : ℕ) → gcd a 0 ≡ a
gcd_zero a = gcd_is a 0 a (IsGcd-from_zero a 0 refl)

pub gcd_step : (a b : ℕ) → gcd a b ≡ gcd b (a % b)
gcd_step a b = gcd_is a b (gcd b (a % b)) (IsGcd-from_mod a b (gcd b (a % b)) (is_gcd b (a % b)))
