-- `products::product::letter_of` meets its contract: nine members, from the highest down. Assumes nothing.
use mathlib.Core.Path.{◌∙◌}
use Rattle.products.specs.Primes.{primes, dividing, letter_of}
use Rattle.products.proofs.product.letter_of.Goals as goal

pub returns : goal.returns
unfolding letter_of dividing primes
returns c =
    c.joined.ensures.0
    ∙ simp (c.joined-c-8.ensures.0, c.joined-c-7.ensures.0, c.joined-c-6.ensures.0, c.joined-c-5.ensures.0, c.joined-c-4.ensures.0, c.joined-c-3.ensures.0, c.joined-c-2.ensures.0, c.joined-c.ensures.0)
