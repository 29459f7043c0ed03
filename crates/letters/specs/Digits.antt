-- Numbers by their binary digits.
use Rattle.std.specs.Prelude.{ℕ, zero, suc, ◌/◌, ◌%◌}

-- the digit of x at the place j, the lowest at 0
unfoldable pub digit : ℕ → ℕ → ℕ
digit zero x = x % 2
digit (suc j) x = digit j (x / 2)
