-- `first::c::called` meets its contract: the laws of a call answer both cases. Assumes nothing.
use mathlib.Core.Path.{◌∙◌}
use Rattle.codes.proofs.SignedLaws.{read_back}
use Rattle.first.proofs.CallLaws.{first_short, first_full}
use Rattle.first.proofs.c.called.Goals as goal

pub returns-then-found-lt2 : goal.returns-then-found-lt2
returns-then-found-lt2 c = first_short _ _ _ _ _ _ _ c.if-found-lt2.true _ (read_back _ c.too_few.type_inv ∙ c.too_few.ensures)

pub returns : goal.returns
returns c = first_full _ _ _ _ _ _ _ c.if-found-lt2.false _ _ _ c.search.ensures.promise (read_back _ c.told.type_inv ∙ c.told.ensures.0) c.told.ensures.1
