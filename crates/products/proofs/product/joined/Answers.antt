-- `products::product::joined` meets its contract. Assumes nothing.
use mathlib.Core.Path.{◌≡◌}
use mathlib.Core.Bool.{Bool, true, false}
use Prim.Native.Nat.{ℕ, ◌+◌, ◌*◌, ◌%◌, ◌≤◌}
use native.Mathlib.Omega.{arith}
use lib.Dec.{eqb}
use mir.Val.{bool_byte}
use Rattle.hits.specs.Counts.{tally}
use Rattle.products.specs.Primes.{divides}
use Rattle.products.proofs.product.joined.Goals as goal

one_more : (t : Bool) (x : ℕ) → (x + bool_byte t ≡ tally t + x) × (x + bool_byte t ≤ 1 + x)
one_more true x = (omega arith, omega arith)
one_more false x = (omega arith, omega arith)

pub returns : goal.returns
unfolding divides
returns c = rw c.from.ensures (one_more (eqb (c.args.v % c.args.p) 0) (2 * c.args.above))
