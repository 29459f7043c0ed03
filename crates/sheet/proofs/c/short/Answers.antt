-- `sheet::c::short` meets its contract. Assumes nothing.
use mathlib.Core.Path.{ap, ◌∙◌}
use Rattle.codes.specs.Codes.{refused_code}
use Rattle.inputs.specs.Refusals.{refuse, with_room}
use Rattle.codes.proofs.SignedLaws.{read_back}
use Rattle.sheet.proofs.c.short.Goals as goal

pub returns-in-Err : goal.returns-in-Err
unfolding with_room
returns-in-Err c = rw c.in-Err.is (read_back _ c.refusal_code.type_inv ∙ c.refusal_code.ensures)

pub returns-in-Ok : goal.returns-in-Ok
unfolding with_room refuse
returns-in-Ok c = rw c.in-Ok.is (read_back _ c.refusal_code-in-Ok.type_inv ∙ c.refusal_code-in-Ok.ensures ∙ ap refused_code c.at.ensures)
