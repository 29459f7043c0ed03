use Rattle.hybrid.proofs.StretchLoop.{Stepping, ahead}
use Rattle.hybrid.proofs.steps_from.Given as goal

abbrev pub invariant-loop-e : goal.invariant-loop-e
invariant-loop-e l = Stepping l.pattern l.t l.a l.initial.list l.total l.e (ahead l.pattern l.t l.e l.d) l.list l.count
