-- `products::product::first_product` meets its contract: its ten entries are computed. Assumes nothing.
use native.Mathlib.Omega.{arith}
use Rattle.products.specs.Primes.{primes, product, first_product}
use Rattle.products.proofs.TableLaws.{tabulate, entry}
use Rattle.products.proofs.product.first_product.Goals as goal

pub returns : goal.returns
unfolding tabulate first_product product primes
returns c = entry first_product 10 c.args.k (omega arith)
