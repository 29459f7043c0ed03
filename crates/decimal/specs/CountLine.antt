-- The count line: 1 to 5 decimal digits, no leading 0 except "0" itself, then LF.
use Rattle.std.specs.Prelude.{ℕ, suc, ◌+◌, Bool, cond, not, ◌&&◌, List, Option, Some, None, eqb, ltb, length, get_or}
use Rattle.decimal.specs.Decimal.{front_digits, value}
use Rattle.decimal.specs.declared.count.Counted.{Counted}

-- s begins with a right count line of n digits
unfoldable pub right_count : List ℕ → ℕ → Bool
right_count s n = not (eqb n 0) && not (ltb 5 n) && eqb (get_or s n 0) 10 && not (ltb 1 n && eqb (get_or s 0 0) 48)

abbrev pub counted : ℕ → ℕ → Counted
counted v e = record { number = v; next = e }

-- the count line in front of s, which begins at the place at: its number and the place after it; or none, where it is ill-formed or missing
unfoldable pub count_at : ℕ → List ℕ → Option Counted
count_at at s =
    cond (right_count s (length (front_digits s)))
    (Some (counted (value 0 (front_digits s)) (suc (at + length (front_digits s)))))
    None
