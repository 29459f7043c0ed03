-- `codes::written_number` meets its contract. Assumes nothing.
use mathlib.Core.Path.{◌∙◌}
use Rattle.codes.proofs.SignedLaws.{read_back}
use Rattle.codes.proofs.written_number.Goals as goal

pub length_code-requires : goal.length_code-requires
length_code-requires c = rw c.in-Ok.is at c.requires

pub returns-in-Err : goal.returns-in-Err
returns-in-Err c = rw c.in-Err.is (read_back _ c.number_code.type_inv ∙ c.number_code.ensures)

pub returns-in-Ok : goal.returns-in-Ok
returns-in-Ok c = rw c.in-Ok.is (read_back _ c.length_code.type_inv ∙ c.length_code.ensures)
