-- The reader of a sheet, over its bytes: what it refuses, in the order of the checks, and the strings that it gives.
--
-- Refusal 10 comes before all. For each section: 11, then 1, 2 or 3 for the count, then 12 or 13, then 14, then 8. 15 is last.
--
--   refusal, refuse_at, and_then       a refusal; one check and those after it; what comes after what was found
--   on_count, on_alphabet, on_letters   what comes after a count line, the alphabet line, a line of letters
--   Section                          a string, where its line begins, and the place after it
--   alphabet_section                  the alphabet's section
--   letter_line, letter_section        a line of letters whose count is known; with the count line before it
--   pattern_bounds, text_bounds        how many letters the two strings may have, and whether marks may stand among them
--   text_section, string_sections      the text's section, which ends the sheet; with the pattern's before it
--   Whole, planning                  the three sections of a whole sheet
--   Strings, reading                 the three strings of a sheet
use Rattle.std.specs.Prelude.{ℕ, Bool, true, false, not, List, eqb, ltb, length, drop, take, Option, None, Some, Result, Ok, Err}
use Rattle.letters.specs.Sizes.{outside}
use Rattle.decimal.specs.CountLine.{count_at}
use Rattle.decimal.specs.declared.count.Counted.{Counted}
use Rattle.notation.specs.Alphabet.{alphabet_at}
use Rattle.notation.specs.Reader.{out, Read, got, wrong, read_from}
use Rattle.notation.specs.declared.alphabet.Wrong.{Wrong}
use Rattle.inputs.specs.declared.refusal.Kind.{Kind}
use Rattle.inputs.specs.declared.refusal.Kind.TheVariants.{AlphabetSize, PatternLength, TextLength, Room, SheetLength, CountLine, AlphabetLine, LetterLine, LetterCount, Surplus}
use Rattle.inputs.specs.declared.refusal.Refusal.{Refusal}
use Rattle.sheet.specs.declared.sections.Bounds.{Bounds}

-- a refusal of this kind, at a place
abbrev pub refusal : {A : Type 0} → Kind → ℕ → Result A Refusal
refusal kind place = Err (record { kind = kind; place = place })

-- where the test holds, the kind and the place; else what the checks after it say
unfoldable pub refuse_at : {A : Type 0} → Bool → Kind → ℕ → Result A Refusal → Result A Refusal
refuse_at true kind place o = refusal kind place
refuse_at false kind place o = o

abbrev pub and_then : {A B : Type 0} → Result A Refusal → (A → Result B Refusal) → Result B Refusal
and_then (Err r) f = Err r
and_then (Ok x) f = f x

-- after a count line at the place at: its number, and where the next line begins
abbrev pub on_count : {A : Type 0} → Option Counted → ℕ → (ℕ → ℕ → Result A Refusal) → Result A Refusal
on_count None at f = refusal CountLine at
on_count (Some c) at f = f c.number c.next

-- after the alphabet line: the place after it
abbrev pub on_alphabet : {A : Type 0} → Result ℕ Wrong → (ℕ → Result A Refusal) → Result A Refusal
on_alphabet (Err w) f = refusal AlphabetLine w.place
on_alphabet (Ok next) f = f next

-- after a line of letters: the letters, and the place after it
abbrev pub on_letters : {A : Type 0} → Read → (List ℕ → ℕ → Result A Refusal) → Result A Refusal
on_letters (wrong q) f = refusal LetterLine q
on_letters (got cs next) f = f cs next

pub record Section : Type 0 where
  pub string : List ℕ
  pub from : ℕ
  pub next : ℕ

-- the alphabet's section of the sheet s, for a list with so much room; K is the largest k
unfoldable pub alphabet_section : ℕ → ℕ → List ℕ → Result Section Refusal
alphabet_section K room s =
    on_count (count_at 0 s) 0 (λ k from.
    refuse_at (outside 1 K k) AlphabetSize 0
    (on_alphabet (alphabet_at k from (drop from s)) (λ next.
    refuse_at (ltb room k) Room 0
    (Ok (record { string = take k (drop from s); from = from; next = next })))))

-- m letters of the alphabet A, among which marks may stand or not, for a list with so much room; their count line is at the place at
unfoldable pub letter_line : Bool → List ℕ → ℕ → List ℕ → ℕ → ℕ → ℕ → Result Section Refusal
letter_line marks A room s at m from =
    on_letters (read_from marks A out from (drop from s)) (λ cs next.
    refuse_at (not (eqb (length cs) m)) LetterCount at
    (refuse_at (ltb room m) Room 0
    (Ok (record { string = cs; from = from; next = next }))))

unfoldable pub letter_section : List ℕ → Bounds → List ℕ → ℕ → Result Section Refusal
letter_section A b s at =
    on_count (count_at at (drop at s)) at (λ m from.
    refuse_at (outside b.least b.most m) b.kind at
    (letter_line b.marks A b.room s at m from))

-- the pattern has 1 to M letters, else 2, and no mark; the text at most N, else 3, and marks may stand in it
abbrev pub pattern_bounds : ℕ → ℕ → Bounds
pattern_bounds M room = record { least = 1; most = M; kind = PatternLength; marks = false; room = room }

abbrev pub text_bounds : ℕ → ℕ → Bounds
text_bounds N room = record { least = 0; most = N; kind = TextLength; marks = true; room = room }

-- from the place at to the sheet's end
unfoldable pub text_section : ℕ → List ℕ → ℕ → List ℕ → ℕ → Result Section Refusal
text_section N A room s at =
    and_then (letter_section A (text_bounds N room) s at) (λ t.
    refuse_at (ltb t.next (length s)) Surplus t.next
    (Ok t))

pub record Sections : Type 0 where
  pub pattern : Section
  pub text : Section

unfoldable pub string_sections : ℕ → ℕ → List ℕ → ℕ → ℕ → List ℕ → ℕ → Result Sections Refusal
string_sections M N A roomP roomT s at =
    and_then (letter_section A (pattern_bounds M roomP) s at) (λ p.
    and_then (text_section N A roomT s p.next) (λ t.
    Ok (record { pattern = p; text = t })))

pub record Whole : Type 0 where
  pub alphabet : Section
  pub pattern : Section
  pub text : Section

-- the sheet s, walked for lists with so much room. B, K, M and N are the largest sheet, k, m and n
unfoldable pub planning : ℕ → ℕ → ℕ → ℕ → ℕ → ℕ → ℕ → List ℕ → Result Whole Refusal
planning B K M N roomA roomP roomT s =
    refuse_at (ltb B (length s)) SheetLength 0
    (and_then (alphabet_section K roomA s) (λ a.
    and_then (string_sections M N a.string roomP roomT s a.next) (λ w.
    Ok (record { alphabet = a; pattern = w.pattern; text = w.text }))))

-- three strings, or three lent lists
pub record Strings : Type 0 where
  pub alphabet : List ℕ
  pub pattern : List ℕ
  pub text : List ℕ

-- the sheet s, read for lists as long as those of d: the strings of its sections
unfoldable pub reading : ℕ → ℕ → ℕ → ℕ → Strings → List ℕ → Result Strings Refusal
reading B K M N d s =
    and_then (planning B K M N (length d.alphabet) (length d.pattern) (length d.text) s) (λ w.
    Ok (record { alphabet = w.alphabet.string; pattern = w.pattern.string; text = w.text.string }))
