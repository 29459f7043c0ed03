-- `products::twice::from_products_twice` meets its contract, by that of `from_products` alone. Assumes nothing.
use mathlib.Core.Path.{sym}
use Rattle.promise.proofs.Uniqueness.{one_outcome}
use Rattle.products.proofs.twice.from_products_twice.Goals as goal

pub returns : goal.returns
returns c = one_outcome c.from_products-first.ensures (rw (sym c.requires) at c.from_products-second.ensures)
