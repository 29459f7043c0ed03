-- The step with the rows of the pattern's masks is the rule's step. Assumes nothing.
use mathlib.Core.Path.{◌≡◌, ap}
use mathlib.Core.List.{List}
use Prim.Native.Nat.{ℕ, ◌^◌, ◌<◌}
use Rattle.letters.specs.Members.{members, union_of}
use Rattle.pattern.specs.Tables.{MaskTable}
use Rattle.pattern.proofs.MaskLaws.{mask_digit}
use Rattle.word.specs.Word.{moved, stepped}
use Rattle.word.proofs.WordLaws.{mark_positions}

-- the union of the rows of c's members has the positions that meet c
pub rows_step : (K : ℕ) (P rows : List ℕ) (c w : ℕ) → MaskTable K P rows → c < 2 ^ K → moved w (union_of rows (members K c)) ≡ stepped P c w
unfolding stepped
rows_step K P rows c w t l = ap (moved w) (mark_positions P c (union_of rows (members K c)) (λ j. mask_digit K P rows c j t l))
