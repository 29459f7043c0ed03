-- `bound::c::called` meets its contract: a shell over one call. Assumes nothing.
use mathlib.Core.Path.{◌∙◌}
use native.Mathlib.Omega.{arith}
use Rattle.inputs.specs.Refusals.{verdict}
use Rattle.codes.proofs.SignedLaws.{read_back}
use Rattle.codes.proofs.CodeLaws.{written_called, wrote_most}
use Rattle.choices.specs.Choices.{bound_hits}
use Rattle.bound.proofs.CallLaws.{bound_short}
use Rattle.bound.proofs.c.called.Goals as goal

pub written_code-requires : goal.written_code-requires
written_code-requires c =
    let l = wrote_most _ _ _ _ _ c.search.ensures _ (bound_short _ _ _ _ _ _) in
    omega arith

pub returns : goal.returns
returns c =
    let a = c.args in
    written_called (verdict _ _ _ _ _ _) (bound_hits a.p.now a.t.now) a.hits.now _ _ c.search.ensures _
    (read_back _ c.written_code.type_inv ∙ c.written_code.ensures)
