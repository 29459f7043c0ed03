-- The writer of a sheet: what it refuses, in the order of the checks, and the bytes that it writes.
-- Check 1, then 12; the checks of a search; then 10, then 8.
--
--   on_bytes          12, by what was found of an alphabet's bytes
--   checks           what is refused of the strings
--   sizes            what is refused of a sheet's length
--   writing          all of it
--   WriteInto        the promise of the writer
--   WriteCalled      the promise of its call from C
--   Spellable A P T  the letters of P and T have bytes in A
use Rattle.std.specs.Prelude.{ℕ, ◌^◌, ◌<◌, List, [], ltb, ℤ, length, Result, Ok, Err}
use Rattle.letters.specs.Sizes.{outside, Below}
use Rattle.inputs.specs.Refusals.{Check, refuse, verdict, both}
use Rattle.inputs.specs.Answers.{WrittenInto}
use Rattle.inputs.specs.declared.refusal.Kind.TheVariants.{AlphabetSize, Room, SheetLength, AlphabetLine}
use Rattle.inputs.specs.declared.refusal.Refusal.{Refusal}
use Rattle.codes.specs.Codes.{WrittenCalled}
use Rattle.notation.specs.Alphabet.{fresh_from}
use Rattle.notation.specs.declared.alphabet.Wrong.{Wrong}
use Rattle.sheet.specs.Bytes.{sheet_bytes}

-- 12 where k bytes of an alphabet are not there, at the first that is wrong or missing, or where there are more, at the first of them
abbrev pub on_bytes : Result ℕ Wrong → ℕ → ℕ → Check → Check
on_bytes (Err w) k size c = Err (record { kind = AlphabetLine; place = w.place })
on_bytes (Ok e) k size c = refuse (ltb k size) AlphabetLine k c

-- K, M and N are the largest k, m and n
unfoldable pub checks : ℕ → ℕ → ℕ → ℕ → List ℕ → List ℕ → List ℕ → Check
checks K M N k A P T =
    refuse (outside 1 K k) AlphabetSize 0
    (on_bytes (fresh_from [] k 0 A) k (length A)
    (verdict K M N k P T))

-- then 10 for more than B bytes, and 8 for a slice with too little room
unfoldable pub sizes : ℕ → ℕ → ℕ → Check
sizes B room n = refuse (ltb B n) SheetLength 0 (refuse (ltb room n) Room 0 (Ok tt))

unfoldable pub writing : ℕ → ℕ → ℕ → ℕ → ℕ → List ℕ → List ℕ → List ℕ → ℕ → Check
writing B K M N k A P T room = both (checks K M N k A P T) (sizes B room (length (sheet_bytes A P T)))

-- writing a sheet into the lent slice d, which holds `after` afterwards
abbrev pub WriteInto : ℕ → ℕ → ℕ → ℕ → ℕ → List ℕ → List ℕ → List ℕ → List ℕ → Result ℕ Refusal → List ℕ → Type 0
WriteInto B K M N k A P T d r after = WrittenInto (writing B K M N k A P T (length d)) (sheet_bytes A P T) d r after

abbrev pub WriteCalled : ℕ → ℕ → ℕ → ℕ → ℕ → List ℕ → List ℕ → List ℕ → List ℕ → ℤ → List ℕ → Type 0
WriteCalled B K M N k A P T d r after = WrittenCalled (writing B K M N k A P T (length d)) (sheet_bytes A P T) d r after

pub record Spellable (A P T : List ℕ) : Type 0 where
  pub few : length A < 2 ^ 32
  pub pattern : Below (length A) P
  pub text : Below (length A) T
