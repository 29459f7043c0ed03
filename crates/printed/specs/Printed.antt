-- What the program prints for a sheet: its report, or `refused NUMBER at PLACE` and LF.
--
--   refused_name, at_name   the line's words, each with the space after it
--   refusal_line           the line of a refusal
--   report_of              the report of a sheet, with room for any
--   bytes_for, printed     what is printed, by the outcome of a report, and for a sheet
--   PrintInto             the promise
--   NoMore                 a list that was filled is as good as the whole input
use Rattle.std.specs.Prelude.{ℕ, ◌≤◌, ◌≡◌, List, [], ◌∷◌, ◌++◌, length, take, Result, Ok, Err}
use Rattle.promise.specs.Promised.{Promised}
use Rattle.lent.specs.Over.{over}
use Rattle.inputs.specs.Numbers.{number_of}
use Rattle.inputs.specs.declared.refusal.Refusal.{Refusal}
use Rattle.sheet.specs.Reader.{and_then}
use Rattle.decimal.specs.Decimal.{ended}
use Rattle.reportbytes.specs.Bytes.{bytes_of}
use Rattle.report.specs.Values.{values_of}
use Rattle.report.specs.Report.{read_alone}

-- `refused ` and `at `
abbrev pub refused_name : List ℕ
refused_name = 114 ∷ 101 ∷ 102 ∷ 117 ∷ 115 ∷ 101 ∷ 100 ∷ 32 ∷ []

abbrev pub at_name : List ℕ
at_name = 97 ∷ 116 ∷ 32 ∷ []

unfoldable pub refusal_line : ℕ → ℕ → List ℕ
refusal_line number place = refused_name ++ (ended number 32 ++ (at_name ++ ended place 10))

abbrev pub bytes_for : Result (List ℕ) Refusal → List ℕ
bytes_for (Ok bytes) = bytes
bytes_for (Err r) = refusal_line (number_of r.kind) r.place

-- the report of the sheet s, or what the reader refuses: here there is room for any report
unfoldable pub report_of : ℕ → ℕ → ℕ → ℕ → List ℕ → Result (List ℕ) Refusal
report_of B K M N s = and_then (read_alone B K M N s) (λ w. Ok (bytes_of (values_of w.pattern w.text)))

-- B, K, M and N are the largest sheet, k, m and n
unfoldable pub printed : ℕ → ℕ → ℕ → ℕ → List ℕ → List ℕ
printed B K M N s = bytes_for (report_of B K M N s)

-- the bytes for the sheet s over the front of the lent list d, which holds `after` afterwards; n is how many they are
abbrev pub PrintInto : ℕ → ℕ → ℕ → ℕ → List ℕ → List ℕ → ℕ → List ℕ → Type 0
PrintInto B K M N s d n after = Promised (length (printed B K M N s)) (over (printed B K M N s) d) n after

-- a list that was filled is as good as the whole input: whatever follows it, the same is printed
abbrev pub NoMore : ℕ → ℕ → ℕ → ℕ → List ℕ → ℕ → Type 0
NoMore B K M N list n = (rest : List ℕ) → length list ≤ n → printed B K M N (list ++ rest) ≡ printed B K M N (take n list)
