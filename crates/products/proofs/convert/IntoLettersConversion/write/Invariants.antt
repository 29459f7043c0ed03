use mathlib.Core.Path.{◌≡◌}
use Rattle.products.specs.Primes.{letter_of}
use Rattle.lent.proofs.MapLaws.{written}
use Rattle.products.proofs.convert.IntoLettersConversion.write.Given as goal

abbrev pub invariant-loop-i : goal.invariant-loop-i
invariant-loop-i l = l.letters ≡ written letter_of l.products l.initial.letters l.i
