-- Reading a sheet from C: 0, or minus the refusal's number and 256 times its place; the three strings, and their sizes, in lent memory.
--
--   taken_check   what the checks said of a sheet, by the reader's answer
--   sizes_over    the sizes over the front of a lent list
--   Lent         what lent memory holds: the three lists, and the sizes
--   kept_of       what is left in it: all as it was unless the checks pass
--   ReadCalled   the promise
use Rattle.std.specs.Prelude.{ℕ, List, [], ◌∷◌, ℤ, length, Result, Ok, Err}
use Rattle.promise.specs.Promised.{Promised}
use Rattle.lent.specs.Over.{over}
use Rattle.inputs.specs.declared.refusal.Refusal.{Refusal}
use Rattle.inputs.specs.Refusals.{Check, with_room}
use Rattle.codes.specs.Codes.{code_of}
use Rattle.sheet.specs.Reader.{Strings, reading}
use Rattle.sheet.specs.Answers.{taken_of, check_of, left_of}
use Rattle.sheet.specs.declared.Sizes.{Sizes}

abbrev pub taken_check : Result Sizes Refusal → Check
taken_check (Err r) = Err r
taken_check (Ok z) = Ok tt

abbrev pub sizes_over : Result Sizes Refusal → List ℕ → List ℕ
sizes_over (Err r) z = z
sizes_over (Ok x) z = over (x.k ∷ x.m ∷ x.n ∷ []) z

pub record Lent : Type 0 where
  pub strings : Strings
  pub sizes : List ℕ

abbrev pub kept_of : Check → Result Strings Refusal → Strings → List ℕ → Lent
kept_of (Err r) o d z = record { strings = d; sizes = z }
kept_of (Ok tt) o d z = record { strings = left_of o d; sizes = sizes_over (taken_of o) z }

-- d and z are the lent lists before. 8 where fewer than three sizes are lent, after all other checks
abbrev pub ReadCalled : ℕ → ℕ → ℕ → ℕ → List ℕ → Strings → List ℕ → ℤ → Strings → List ℕ → Type 0
ReadCalled B K M N s d z r strings sizes =
    Promised {B = Lent} (code_of (with_room 3 (length z) (check_of (reading B K M N d s))) 0)
    (kept_of (with_room 3 (length z) (check_of (reading B K M N d s))) (reading B K M N d s) d z) r (record { strings = strings; sizes = sizes })
