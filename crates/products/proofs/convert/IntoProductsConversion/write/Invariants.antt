use mathlib.Core.Path.{◌≡◌}
use Rattle.products.specs.Primes.{product_of}
use Rattle.lent.proofs.MapLaws.{written}
use Rattle.products.proofs.convert.IntoProductsConversion.write.Given as goal

abbrev pub invariant-loop-i : goal.invariant-loop-i
invariant-loop-i l = l.products ≡ written product_of l.letters l.initial.products l.i
