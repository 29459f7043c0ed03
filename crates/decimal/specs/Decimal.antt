-- Numbers in decimal digits.
--
--   front_digits s  the digits in front of s
--   value v ds     the number that v, and then the digits ds, write
--   decimal_to f n  the digits of n, f at most
--   decimal n      the digits of n, with no leading 0 except for 0 itself
--   ended n b      the digits of n, and the byte b after them
use Rattle.std.specs.Prelude.{ℕ, zero, suc, ◌+◌, ◌-◌, ◌*◌, ◌/◌, ◌%◌, cond, List, [], ◌∷◌, ◌++◌, ltb, take_while}
use Rattle.std.specs.Char.{is_ascii_digit}

abbrev pub front_digits : List ℕ → List ℕ
front_digits s = take_while is_ascii_digit s

unfoldable pub value : ℕ → List ℕ → ℕ
value v [] = v
value v (b ∷ ds) = value (v * 10 + (b - 48)) ds

unfoldable pub decimal_to : ℕ → ℕ → List ℕ
decimal_to zero n = []
decimal_to (suc f) n = cond (ltb n 10) ((48 + n) ∷ []) (decimal_to f (n / 10) ++ ((48 + n % 10) ∷ []))

-- a number of 64 bits has 20 digits at most
unfoldable pub decimal : ℕ → List ℕ
decimal n = decimal_to 20 n

-- a number, and the byte after it
unfoldable pub ended : ℕ → ℕ → List ℕ
ended n b = decimal n ++ (b ∷ [])
