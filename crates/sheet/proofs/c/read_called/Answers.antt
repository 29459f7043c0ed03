-- `sheet::c::read_called` meets its contract: the laws of a reading answer both cases. Assumes nothing.
use mathlib.Core.Path.{◌∙◌}
use Rattle.codes.proofs.SignedLaws.{read_back}
use Rattle.sheet.proofs.CalledLaws.{read_short, read_full}
use Rattle.sheet.proofs.c.read_called.Goals as goal

pub returns-then-sizes-lt3 : goal.returns-then-sizes-lt3
returns-then-sizes-lt3 c = read_short _ _ _ _ _ _ _ c.if-sizes-lt3.true _ _ c.measure.ensures.promise.answers (read_back _ c.short.type_inv ∙ c.short.ensures)

pub returns : goal.returns
returns c = read_full _ _ _ _ _ _ _ c.if-sizes-lt3.false _ _ _ _ c.read.ensures.promise (read_back _ c.sized.type_inv ∙ c.sized.ensures.0) c.sized.ensures.1
