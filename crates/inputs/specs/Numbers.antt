-- The table of refusals: the number of each.
use Rattle.std.specs.Prelude.{ℕ}
use Rattle.inputs.specs.declared.refusal.Kind.{Kind}
use Rattle.inputs.specs.declared.refusal.Kind.TheVariants.{AlphabetSize, PatternLength, TextLength, PatternLetter, TextLetter, ProductAlphabet, NoProduct, Room, SheetLength, CountLine, AlphabetLine, LetterLine, LetterCount, Surplus, Start}

abbrev pub number_of : Kind → ℕ
number_of AlphabetSize = 1
number_of PatternLength = 2
number_of TextLength = 3
number_of PatternLetter = 4
number_of TextLetter = 5
number_of ProductAlphabet = 6
number_of NoProduct = 7
number_of Room = 8
number_of SheetLength = 10
number_of CountLine = 11
number_of AlphabetLine = 12
number_of LetterLine = 13
number_of LetterCount = 14
number_of Surplus = 15
number_of Start = 16
