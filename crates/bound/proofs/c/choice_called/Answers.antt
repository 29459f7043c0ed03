-- `bound::c::choice_called` meets its contract: what is told of the answer about a start. Assumes nothing.
use mathlib.Core.Path.{◌∙◌}
use Rattle.codes.proofs.SignedLaws.{read_back}
use Rattle.bound.proofs.CallLaws.{choice_called}
use Rattle.bound.proofs.c.choice_called.Goals as goal

pub returns-in-Err : goal.returns-in-Err
returns-in-Err c =
    let a = c.args in
    choice_called _ _ _ a.k a.p.now a.t.now a.start a.choice.now _ _ c.choose.ensures _ (rw c.in-Err.is (read_back _ c.refusal_code.type_inv ∙ c.refusal_code.ensures))
