-- `codes::search::called_through` meets its contract: the laws of a call answer both cases. Assumes nothing.
use native.Mathlib.Omega.{arith}
use mathlib.Core.Path.{◌∙◌}
use Rattle.codes.proofs.SignedLaws.{read_back}
use Rattle.codes.proofs.CallLaws.{called_short, called_full, called_total}
use Rattle.codes.proofs.search.called_through.Goals as goal

pub returns-then-work-lt3 : goal.returns-then-work-lt3
returns-then-work-lt3 g c = called_short g.R.Rule.turns _ _ _ _ _ _ _ _ c.if-work-lt3.true _ (read_back _ c.too_few.type_inv ∙ c.too_few.ensures)

pub told-requires : goal.told-requires
told-requires g c =
    let few = called_total g.R.Rule.turns _ _ _ _ _ _ _ _ _ c.searched.ensures in
    (omega (arith, few), c.if-work-lt3.false)

pub returns : goal.returns
returns g c =
    called_full g.R.Rule.turns _ _ _ _ _ _ _ _ c.if-work-lt3.false _ _ _ _ c.searched.ensures
    (read_back _ c.told.type_inv ∙ c.told.ensures.0) c.told.ensures.1
