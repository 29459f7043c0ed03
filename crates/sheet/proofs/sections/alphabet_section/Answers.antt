-- `sheet::sections::alphabet_section` meets its contract: where the count line ends, and how many letters were read. Assumes nothing.
use native.Mathlib.Omega.{arith}
use mathlib.Core.Path.{sym}
use Rattle.decimal.proofs.CountLaws.{count_within}
use Rattle.sheet.proofs.PlanLaws.{alphabet_at_lem}
use Rattle.sheet.proofs.sections.alphabet_section.Goals as goal

pub read_line-requires : goal.read_line-requires
read_line-requires c = count_within 0 _ _ _ (omega arith) (sym c.in-Some.ensures)

pub returns-in-Ok-2 : goal.returns-in-Ok-2
returns-in-Ok-2 c = alphabet_at_lem _ _ _ _ _ (sym c.in-Some.ensures) (sym c.if-is_outside.ensures) _ (sym c.in-Ok.ensures) c.if-room-k.false
