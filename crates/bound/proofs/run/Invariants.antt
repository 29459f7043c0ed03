use Rattle.hits.proofs.StartLaws.{Noting}
use Rattle.choices.specs.Choices.{bound_at}
use Rattle.bound.proofs.run.Given as goal

abbrev pub invariant-loop-i : goal.invariant-loop-i
invariant-loop-i l = Noting (bound_at l.p l.t) l.initial.list l.i l.list l.total
