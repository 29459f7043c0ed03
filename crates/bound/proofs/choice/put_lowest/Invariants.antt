use mathlib.Core.Path.{◌≡◌}
use Rattle.lent.proofs.MapLaws.{written}
use Rattle.choices.specs.Candidates.{low_member}
use Rattle.bound.proofs.choice.put_lowest.Given as goal

abbrev pub invariant-loop-j : goal.invariant-loop-j
invariant-loop-j l = l.choice ≡ written low_member l.own l.initial.choice l.j
