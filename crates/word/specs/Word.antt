-- The state of the word engines as a number, of any size: digit j stands for pattern position j.
--
--   moved w M        the state after one word step in which the positions M are kept
--   positions P c    the pattern positions that meet the letter c
--   stepped P c w    the state after the word step at the text letter c
--   is_set j w        digit j is set
use Rattle.std.specs.Prelude.{ℕ, ◌+◌, ◌*◌, Bool, List, [], ◌∷◌, eqb}
use Rattle.std.specs.Int.Bits.{bit_and}
use Rattle.letters.specs.Digits.{digit}
use Rattle.letters.specs.Letters.{meets}
use Rattle.hits.specs.Counts.{tally}

-- move the state up one bit, bring in a 1, keep these positions
unfoldable pub moved : ℕ → ℕ → ℕ
moved w M = bit_and (2 * w + 1) M

unfoldable pub positions : List ℕ → ℕ → ℕ
positions [] c = 0
positions (p ∷ P) c = 2 * positions P c + tally (meets p c)

unfoldable pub stepped : List ℕ → ℕ → ℕ → ℕ
stepped P c w = moved w (positions P c)

unfoldable pub is_set : ℕ → ℕ → Bool
is_set j w = eqb (digit j w) 1
