-- The greatest common divisor.
use Rattle.std.specs.Prelude.{ℕ, zero, suc, max, cond, ◌&&◌}
use Rattle.products.specs.Primes.{divides}

-- the greatest number up to f that divides both, 0 if there is none
unfoldable pub common_up_to : ℕ → ℕ → ℕ → ℕ
common_up_to a b zero = 0
common_up_to a b (suc f) = cond (divides (suc f) a && divides (suc f) b) (suc f) (common_up_to a b f)

-- no divisor of a number above 0 is greater than that number
unfoldable pub gcd : ℕ → ℕ → ℕ
gcd a b = common_up_to a b (max a b)
