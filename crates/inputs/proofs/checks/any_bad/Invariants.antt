use Rattle.inputs.proofs.BadLaws.{Joined}
use Rattle.inputs.proofs.checks.any_bad.Given as goal

abbrev pub invariant-loop-c : goal.invariant-loop-c
invariant-loop-c l = Joined l.k l.marks l.s l.all l.wrong l.c-index
