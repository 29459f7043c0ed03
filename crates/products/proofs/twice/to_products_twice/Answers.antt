-- `products::twice::to_products_twice` meets its contract, by that of `to_products` alone. Assumes nothing.
use mathlib.Core.Path.{sym}
use Rattle.promise.proofs.Uniqueness.{one_outcome}
use Rattle.products.proofs.twice.to_products_twice.Goals as goal

pub returns : goal.returns
returns c = one_outcome c.to_products-first.ensures (rw (sym c.requires) at c.to_products-second.ensures)
