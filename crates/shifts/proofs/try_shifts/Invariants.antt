use Rattle.shifts.proofs.TrialLaws.{Trying}
use Rattle.shifts.proofs.try_shifts.Given as goal

abbrev pub invariant-loop-s : goal.invariant-loop-s
invariant-loop-s l = Trying l.p l.t l.i l.lo l.hi l.n l.m l.s l.tests
