-- `reasons::c::called` meets its contract: a shell over one call. Assumes nothing.
use mathlib.Core.Path.{◌∙◌}
use native.Mathlib.Omega.{arith}
use Rattle.inputs.specs.Refusals.{verdict_at}
use Rattle.codes.proofs.SignedLaws.{read_back}
use Rattle.codes.proofs.CodeLaws.{written_called, wrote_most}
use Rattle.reasons.specs.Reasons.{shared_at}
use Rattle.reasons.proofs.SharedLaws.{shared_short}
use Rattle.reasons.proofs.c.called.Goals as goal

pub written_code-requires : goal.written_code-requires
written_code-requires c =
    let l = wrote_most _ _ _ _ _ c.shared_at.ensures _ (shared_short _ _ _ _ _ _ _ _) in
    omega arith

pub returns : goal.returns
returns c =
    let a = c.args in
    written_called (verdict_at _ _ _ _ _ _ _ _) (shared_at a.p.now a.t.now a.start) a.sets.now _ _ c.shared_at.ensures _
    (read_back _ c.written_code.type_inv ∙ c.written_code.ensures)
