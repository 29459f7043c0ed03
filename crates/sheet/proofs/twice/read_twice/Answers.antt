-- `sheet::twice::read_twice` meets its contract, by that of `read` alone. Assumes nothing.
use mathlib.Core.Path.{sym}
use Rattle.promise.proofs.Uniqueness.{one_outcome}
use Rattle.sheet.proofs.twice.read_twice.Goals as goal

pub returns : goal.returns
returns c = one_outcome c.read-first.ensures.promise (rw (sym c.requires) at c.read-second.ensures.promise)
