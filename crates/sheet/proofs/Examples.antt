-- Sheets and what the reader makes of them, as one table: the sheet of the paper, and one for each refusal. Assumes nothing.
use mathlib.Core.Path.{◌≡◌, refl}
use mathlib.Core.List.{List, [], ◌∷◌, map}
use Prim.Native.Nat.{ℕ}
use Rattle.letters.specs.First.{first_with}
use Rattle.letters.specs.Sizes.{outside}
use Rattle.decimal.specs.Decimal.{value}
use Rattle.decimal.specs.CountLine.{right_count, count_at}
use Rattle.notation.specs.Alphabet.{plain, fresh, fresh_from, end_at, alphabet_at}
use Rattle.notation.specs.Reader.{may_follow, inner, byte_move, read_from}
use Rattle.sheet.specs.Reader.{refusal, refuse_at, alphabet_section, letter_line, letter_section, text_section, string_sections, planning, Strings, reading}
use Rattle.std.specs.Prelude.{Result, Ok}
use Rattle.inputs.specs.declared.refusal.Kind.TheVariants.{AlphabetSize, PatternLength, Room, CountLine, AlphabetLine, LetterLine, LetterCount, Surplus}
use Rattle.inputs.specs.declared.refusal.Refusal.{Refusal}

record Case : Type 0 where
  sheet : List ℕ
  outcome : Result Strings Refusal

-- lists of 3, 4 and 12
abbrev lent : Strings
lent = record { alphabet = 0 ∷ 0 ∷ 0 ∷ []; pattern = 0 ∷ 0 ∷ 0 ∷ 0 ∷ []; text = 0 ∷ 0 ∷ 0 ∷ 0 ∷ 0 ∷ 0 ∷ 0 ∷ 0 ∷ 0 ∷ 0 ∷ 0 ∷ 0 ∷ [] }

abbrev cases : List Case
cases =
    record {
      sheet = 51 ∷ 10 ∷ 97 ∷ 101 ∷ 110 ∷ 10 ∷ 52 ∷ 10 ∷ 97 ∷ 110 ∷ 110 ∷ 97 ∷ 10 ∷ 49 ∷ 50 ∷ 10 ∷ 97 ∷ 110 ∷ 110 ∷ 97 ∷ 110 ∷ 110 ∷ 91 ∷ 97 ∷ 101 ∷ 93 ∷ 110 ∷ 97 ∷ 110 ∷ 110 ∷ 91 ∷ 97 ∷ 110 ∷ 93 ∷ 10 ∷ [];
      outcome = Ok (record { alphabet = 97 ∷ 101 ∷ 110 ∷ []; pattern = 1 ∷ 4 ∷ 4 ∷ 1 ∷ []; text = 1 ∷ 4 ∷ 4 ∷ 1 ∷ 4 ∷ 4 ∷ 3 ∷ 4 ∷ 1 ∷ 4 ∷ 4 ∷ 5 ∷ [] });
    }
    -- an|naanna; then the mark in the alphabet, in the pattern and in a bracket
    ∷ record {
      sheet = 51 ∷ 10 ∷ 97 ∷ 101 ∷ 110 ∷ 10 ∷ 52 ∷ 10 ∷ 97 ∷ 110 ∷ 110 ∷ 97 ∷ 10 ∷ 57 ∷ 10 ∷ 97 ∷ 110 ∷ 124 ∷ 110 ∷ 97 ∷ 97 ∷ 110 ∷ 110 ∷ 97 ∷ 10 ∷ [];
      outcome = Ok (record { alphabet = 97 ∷ 101 ∷ 110 ∷ []; pattern = 1 ∷ 4 ∷ 4 ∷ 1 ∷ []; text = 1 ∷ 4 ∷ 0 ∷ 4 ∷ 1 ∷ 1 ∷ 4 ∷ 4 ∷ 1 ∷ [] });
    }
    ∷ record { sheet = 51 ∷ 10 ∷ 97 ∷ 124 ∷ 110 ∷ 10 ∷ []; outcome = refusal AlphabetLine 3 }
    ∷ record { sheet = 51 ∷ 10 ∷ 97 ∷ 101 ∷ 110 ∷ 10 ∷ 50 ∷ 10 ∷ 97 ∷ 124 ∷ 10 ∷ []; outcome = refusal LetterLine 9 }
    ∷ record { sheet = 51 ∷ 10 ∷ 97 ∷ 101 ∷ 110 ∷ 10 ∷ 49 ∷ 10 ∷ 97 ∷ 10 ∷ 49 ∷ 10 ∷ 91 ∷ 97 ∷ 124 ∷ 93 ∷ 10 ∷ []; outcome = refusal LetterLine 14 }
    -- a leading zero
    ∷ record { sheet = 48 ∷ 51 ∷ 10 ∷ []; outcome = refusal CountLine 0 }
    -- six digits
    ∷ record { sheet = 49 ∷ 50 ∷ 51 ∷ 52 ∷ 53 ∷ 54 ∷ 10 ∷ []; outcome = refusal CountLine 0 }
    -- k is 0, and 33
    ∷ record { sheet = 48 ∷ 10 ∷ []; outcome = refusal AlphabetSize 0 }
    ∷ record { sheet = 51 ∷ 51 ∷ 10 ∷ []; outcome = refusal AlphabetSize 0 }
    -- a byte twice, and a line that ends too soon
    ∷ record { sheet = 51 ∷ 10 ∷ 97 ∷ 101 ∷ 97 ∷ 10 ∷ []; outcome = refusal AlphabetLine 4 }
    ∷ record { sheet = 51 ∷ 10 ∷ 97 ∷ 101 ∷ []; outcome = refusal AlphabetLine 4 }
    -- four letters, for a list of three
    ∷ record { sheet = 52 ∷ 10 ∷ 97 ∷ 101 ∷ 110 ∷ 111 ∷ 10 ∷ []; outcome = refusal Room 0 }
    -- no letter in the pattern; [ea] where one was counted, and where two were
    ∷ record { sheet = 51 ∷ 10 ∷ 97 ∷ 101 ∷ 110 ∷ 10 ∷ 48 ∷ 10 ∷ []; outcome = refusal PatternLength 6 }
    ∷ record { sheet = 51 ∷ 10 ∷ 97 ∷ 101 ∷ 110 ∷ 10 ∷ 49 ∷ 10 ∷ 91 ∷ 101 ∷ 97 ∷ 93 ∷ 10 ∷ []; outcome = refusal LetterLine 10 }
    ∷ record { sheet = 51 ∷ 10 ∷ 97 ∷ 101 ∷ 110 ∷ 10 ∷ 50 ∷ 10 ∷ 91 ∷ 101 ∷ 97 ∷ 93 ∷ 10 ∷ []; outcome = refusal LetterLine 10 }
    -- one letter where two were counted
    ∷ record { sheet = 51 ∷ 10 ∷ 97 ∷ 101 ∷ 110 ∷ 10 ∷ 50 ∷ 10 ∷ 97 ∷ 10 ∷ []; outcome = refusal LetterCount 6 }
    -- no text at all, and a byte after the text
    ∷ record { sheet = 51 ∷ 10 ∷ 97 ∷ 101 ∷ 110 ∷ 10 ∷ 49 ∷ 10 ∷ 97 ∷ 10 ∷ []; outcome = refusal CountLine 10 }
    ∷ record { sheet = 51 ∷ 10 ∷ 97 ∷ 101 ∷ 110 ∷ 10 ∷ 49 ∷ 10 ∷ 97 ∷ 10 ∷ 48 ∷ 10 ∷ 10 ∷ 120 ∷ []; outcome = refusal Surplus 13 }
    ∷ []

abbrev read : Case → Result Strings Refusal
read c = reading 8192 32 64 65536 lent c.sheet

abbrev due : Case → Result Strings Refusal
due c = c.outcome

pub table : map read cases ≡ map due cases
unfolding value right_count count_at plain first_with fresh fresh_from end_at alphabet_at may_follow inner byte_move read_from outside refuse_at alphabet_section letter_line letter_section text_section string_sections planning reading
table = refl
