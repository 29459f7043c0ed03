-- Letters: sets of base letters, held as numbers. Bit b stands for base letter b. The set without members, 0, is the entry mark: it may stand in a text alone.
--
--   member b c   base letter b is a member of the letter c
--   shared a b   the set of common members
--   meets a b    the two share a member
--   single c     c has one member
--   unsure c     c has two members or more
use Rattle.std.specs.Prelude.{ℕ, Bool, not, eqb, leb}
use Rattle.std.specs.Int.Bits.{bit_and}
use Rattle.std.specs.Int.Count.{ones}
use Rattle.letters.specs.Digits.{digit}

unfoldable pub member : ℕ → ℕ → Bool
member b c = eqb (digit b c) 1

unfoldable pub shared : ℕ → ℕ → ℕ
shared a b = bit_and a b

unfoldable pub meets : ℕ → ℕ → Bool
meets a b = not (eqb (shared a b) 0)

unfoldable pub single : ℕ → Bool
single c = eqb (ones c) 1

unfoldable pub unsure : ℕ → Bool
unsure c = leb 2 (ones c)
