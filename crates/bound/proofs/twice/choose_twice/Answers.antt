-- `bound::twice::choose_twice` meets its contract, by that of `choose` alone. Assumes nothing.
use mathlib.Core.Path.{sym}
use Rattle.promise.proofs.Uniqueness.{one_outcome}
use Rattle.bound.proofs.twice.choose_twice.Goals as goal

pub returns : goal.returns
returns c = one_outcome c.choose-first.ensures (rw (sym c.requires) at c.choose-second.ensures)
