-- What the reader answers, and what it leaves in the lent lists.
--
--   place_of, plan_of                      a section and a whole sheet in the code's types
--   found_of, both_of, planned_of          an outcome in the code's types: a section, two of them, a whole sheet
--   taken_of                               the reader's answer: the refusal, or k, m and n
--   check_of                               what the checks say
--   left_of                                what is left in the lent lists
--   ReadInto, Measured                    the promises of reading a sheet, and of measuring it
--   Same                                  two lendings of three lists that hold the same
use Rattle.std.specs.Prelude.{ℕ, ◌≡◌, List, length, Result, Ok, Err}
use Rattle.promise.specs.Promised.{Promised}
use Rattle.lent.specs.Over.{over}
use Rattle.inputs.specs.declared.refusal.Refusal.{Refusal}
use Rattle.inputs.specs.Refusals.{Check}
use Rattle.sheet.specs.Reader.{Section, Sections, Whole, Strings, reading}
use Rattle.sheet.specs.declared.sections.Section.{Section as Place}
use Rattle.sheet.specs.declared.sections.Both.{Both}
use Rattle.sheet.specs.declared.plan.Planned.{Planned}
use Rattle.sheet.specs.declared.Sizes.{Sizes}

-- how many letters a section has, where its line begins, and the place after it
abbrev pub place_of : Section → Place
place_of w = record { size = length w.string; from = w.from; next = w.next }

abbrev pub found_of : Result Section Refusal → Result Place Refusal
found_of (Err r) = Err r
found_of (Ok w) = Ok (place_of w)

-- of both sections
abbrev pub both_of : Result Sections Refusal → Result Both Refusal
both_of (Err r) = Err r
both_of (Ok w) = Ok (record { pattern = place_of w.pattern; text = place_of w.text })

-- of all three
abbrev pub plan_of : Whole → Planned
plan_of w = record { alphabet = place_of w.alphabet; pattern = place_of w.pattern; text = place_of w.text }

abbrev pub planned_of : Result Whole Refusal → Result Planned Refusal
planned_of (Err r) = Err r
planned_of (Ok w) = Ok (plan_of w)

abbrev pub taken_of : Result Strings Refusal → Result Sizes Refusal
taken_of (Err r) = Err r
taken_of (Ok w) = Ok (record { k = length w.alphabet; m = length w.pattern; n = length w.text })

abbrev pub check_of : {A : Type 0} → Result A Refusal → Check
check_of (Err r) = Err r
check_of (Ok w) = Ok tt

-- the strings over the front of the lent lists, and the rest as it was; all as it was where the sheet is refused
abbrev pub left_of : Result Strings Refusal → Strings → Strings
left_of (Err r) d = d
left_of (Ok w) d =
    record { alphabet = over w.alphabet d.alphabet; pattern = over w.pattern d.pattern; text = over w.text d.text }

-- reading the sheet s into the lent lists d, which hold `after` afterwards
abbrev pub ReadInto : ℕ → ℕ → ℕ → ℕ → List ℕ → Strings → Result Sizes Refusal → Strings → Type 0
ReadInto B K M N s d r after = Promised (taken_of (reading B K M N d s)) (left_of (reading B K M N d s) d) r after

-- the answer for the sheet s and the lent lists d, which are not written
abbrev pub Measured : ℕ → ℕ → ℕ → ℕ → List ℕ → Strings → Result Sizes Refusal → Type 0
Measured B K M N s d r = Promised {B = Unit {0}} (taken_of (reading B K M N d s)) tt r tt

-- two lendings of three lists that hold the same
abbrev pub Same : List ℕ → List ℕ → List ℕ → List ℕ → List ℕ → List ℕ → Type 0
Same a p t b q u = ◌≡◌ {A = Strings} (record { alphabet = a; pattern = p; text = t }) (record { alphabet = b; pattern = q; text = u })
