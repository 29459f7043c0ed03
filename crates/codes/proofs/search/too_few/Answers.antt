-- `codes::search::too_few` meets its contract: what the checks say picks the case. Assumes nothing.
use mathlib.Core.Path.{sym, ◌∙◌}
use Rattle.codes.specs.Codes.{refused_code}
use Rattle.codes.proofs.SignedLaws.{read_back}
use Rattle.codes.proofs.search.too_few.Goals as goal

pub returns-in-Err : goal.returns-in-Err
returns-in-Err c = read_back _ c.refusal_code.type_inv ∙ c.refusal_code.ensures ∙ rw (sym c.in-Err.ensures)

pub returns-in-Ok : goal.returns-in-Ok
unfolding refused_code
returns-in-Ok c = read_back _ c.refusal_code-in-Ok.type_inv ∙ c.refusal_code-in-Ok.ensures ∙ rw (c.at.ensures, sym c.in-Ok.ensures)
