-- `codes::written_code` meets its contract. Assumes nothing.
use mathlib.Core.Path.{◌∙◌}
use Rattle.codes.proofs.SignedLaws.{read_back}
use Rattle.codes.proofs.written_code.Goals as goal

pub length_code-requires : goal.length_code-requires
length_code-requires c = rw c.in-Ok.is at c.requires

pub returns-in-Err : goal.returns-in-Err
returns-in-Err c = rw c.in-Err.is (read_back _ c.refusal_code.type_inv ∙ c.refusal_code.ensures)

pub returns-in-Ok : goal.returns-in-Ok
returns-in-Ok c = rw c.in-Ok.is (read_back _ c.length_code.type_inv ∙ c.length_code.ensures)
