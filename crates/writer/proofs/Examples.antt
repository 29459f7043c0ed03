-- The place of refusal 12 for an alphabet as it is given, and the bytes of a sheet. Assumes nothing.
use mathlib.Core.Path.{◌≡◌, refl}
use mathlib.Core.List.{List, [], ◌∷◌, map}
use Prim.Native.Nat.{ℕ}
use Rattle.letters.specs.Digits.{digit}
use Rattle.letters.specs.First.{first_with}
use Rattle.letters.specs.Letters.{member}
use Rattle.letters.specs.Members.{members_from, members}
use Rattle.letters.specs.Sizes.{outside}
use Rattle.decimal.specs.Decimal.{decimal_to, decimal}
use Rattle.std.specs.Prelude.{Ok, Err}
use Rattle.inputs.specs.Refusals.{Check, bad, refuse, verdict}
use Rattle.inputs.specs.declared.refusal.Kind.TheVariants.{AlphabetSize, AlphabetLine}
use Rattle.notation.specs.Alphabet.{plain, fresh, fresh_from}
use Rattle.notation.specs.Spelling.{pick, spelling, spell, line}
use Rattle.sheet.specs.Bytes.{sheet_bytes}
use Rattle.writer.specs.Writer.{checks}

record Case : Type 0 where
  k : ℕ
  alphabet : List ℕ
  check : Check

abbrev at12 : ℕ → Check
at12 q = Err (record { kind = AlphabetLine; place = q })

-- right; short; long; the second of two equal bytes; a bad byte before a wrong length; the entry mark's byte; k too large before all
abbrev cases : List Case
cases =
    record { k = 3; alphabet = 97 ∷ 101 ∷ 110 ∷ []; check = Ok tt }
    ∷ record { k = 3; alphabet = 97 ∷ 101 ∷ []; check = at12 2 }
    ∷ record { k = 2; alphabet = 97 ∷ 101 ∷ 110 ∷ []; check = at12 2 }
    ∷ record { k = 3; alphabet = 97 ∷ 101 ∷ 97 ∷ []; check = at12 2 }
    ∷ record { k = 3; alphabet = 97 ∷ 42 ∷ []; check = at12 1 }
    ∷ record { k = 3; alphabet = 97 ∷ 101 ∷ 124 ∷ []; check = at12 2 }
    ∷ record { k = 33; alphabet = []; check = Err (record { kind = AlphabetSize; place = 0 }) }
    ∷ []

abbrev check_of : Case → Check
check_of c = checks 32 64 65536 c.k c.alphabet (1 ∷ []) []

abbrev due : Case → Check
due c = c.check

pub table : map check_of cases ≡ map due cases
unfolding first_with outside plain fresh fresh_from bad refuse verdict checks
table = refl

-- over `aen`, the pattern `*n` and the text `[an]|e`
pub bytes : sheet_bytes (97 ∷ 101 ∷ 110 ∷ []) (7 ∷ 4 ∷ []) (5 ∷ 0 ∷ 2 ∷ [])
    ≡ 51 ∷ 10 ∷ 97 ∷ 101 ∷ 110 ∷ 10 ∷ 50 ∷ 10 ∷ 42 ∷ 110 ∷ 10 ∷ 51 ∷ 10 ∷ 91 ∷ 97 ∷ 110 ∷ 93 ∷ 124 ∷ 101 ∷ 10 ∷ []
unfolding digit member members_from members decimal_to decimal pick spelling spell line sheet_bytes
bytes = refl
