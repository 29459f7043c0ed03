-- `products::twice::convert_twice` meets its contract, by that of `convert` alone. Assumes nothing.
use mathlib.Core.Path.{sym}
use Rattle.promise.proofs.Uniqueness.{one_outcome}
use Rattle.products.proofs.twice.convert_twice.Goals as goal

pub returns : goal.returns
returns g c = one_outcome c.convert-first.ensures (rw (sym c.requires) at c.convert-second.ensures)
