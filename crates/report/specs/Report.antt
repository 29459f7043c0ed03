-- The report of a sheet: refused as the reader refuses it, then with 8 where the report does not fit; else its bytes.
--
--   read_alone       the sheet, read for lists that are long enough
--   fitting         bytes, for a list with so much room
--   report_for       the report of a sheet, for a list with so much room
--   bytes_in o       the bytes that were found; none where the sheet is refused
--   BytesInto       this outcome, into the lent list d, which holds `after` afterwards
--   ReportInto      the promise of a report
--   ReportCalled    the promise of a report called from C, which is told the number of a refusal and not its place
--   Enough, number_of   so many bytes are always enough; the number of a refusal
use Rattle.std.specs.Prelude.{ℕ, ◌≤◌, ◌≡◌, List, [], ltb, ℤ, length, Result, Ok, Err}
use Rattle.inputs.specs.Answers.{WrittenInto}
use Rattle.inputs.specs.Numbers as Numbers
use Rattle.inputs.specs.declared.refusal.Kind.TheVariants.{Room}
use Rattle.inputs.specs.declared.refusal.Refusal.{Refusal}
use Rattle.codes.specs.Codes.{WrittenNumbered}
use Rattle.sheet.specs.Reader.{Strings, reading, refuse_at, and_then}
use Rattle.sheet.specs.Answers.{check_of}
use Rattle.reportbytes.specs.Bytes.{bytes_of}
use Rattle.report.specs.Values.{values_of}

-- the sheet s, read for lists as long as the sheet itself: no section has more letters than the sheet has bytes, so none is too short
unfoldable pub read_alone : ℕ → ℕ → ℕ → ℕ → List ℕ → Result Strings Refusal
read_alone B K M N s = reading B K M N (record { alphabet = s; pattern = s; text = s }) s

unfoldable pub fitting : ℕ → List ℕ → Result (List ℕ) Refusal
fitting room bytes = refuse_at (ltb room (length bytes)) Room 0 (Ok bytes)

unfoldable pub report_for : ℕ → ℕ → ℕ → ℕ → List ℕ → ℕ → Result (List ℕ) Refusal
report_for B K M N s room = and_then (read_alone B K M N s) (λ w. fitting room (bytes_of (values_of w.pattern w.text)))

abbrev pub bytes_in : Result (List ℕ) Refusal → List ℕ
bytes_in (Err r) = []
bytes_in (Ok bytes) = bytes

abbrev pub BytesInto : Result (List ℕ) Refusal → List ℕ → Result ℕ Refusal → List ℕ → Type 0
BytesInto o d r after = WrittenInto (check_of o) (bytes_in o) d r after

-- a report of the sheet s
abbrev pub ReportInto : ℕ → ℕ → ℕ → ℕ → List ℕ → List ℕ → Result ℕ Refusal → List ℕ → Type 0
ReportInto B K M N s d r after = BytesInto (report_for B K M N s (length d)) d r after

abbrev pub ReportCalled : ℕ → ℕ → ℕ → ℕ → List ℕ → List ℕ → ℤ → List ℕ → Type 0
ReportCalled B K M N s d r after =
    let o = report_for B K M N s (length d) in WrittenNumbered (check_of o) (bytes_in o) d r after

-- 0 where there is no refusal
abbrev pub number_of : Result ℕ Refusal → ℕ
number_of (Ok len) = 0
number_of (Err r) = Numbers.number_of r.kind

-- no refusal with 8
abbrev pub Enough : ℕ → List ℕ → Result ℕ Refusal → Type 0
Enough most d r = most ≤ length d → number_of r ≡ 8 → ⊥
