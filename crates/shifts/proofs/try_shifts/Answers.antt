-- `shifts::try_shifts` meets its contract: the trials so far, with those left, are all of the rule's. Assumes nothing.
use native.Mathlib.Omega.{arith}
use Rattle.hits.proofs.ScanLaws.{reach_ge, reach_le}
use Rattle.shifts.proofs.TrialLaws.{try_end, try_out, try_fit, try_on}
use Rattle.shifts.proofs.try_shifts.Goals as goal

pub returns-then-n-at : goal.returns-then-n-at
returns-then-n-at c = try_out c.loop-s.invariant (omega arith) (omega arith)

pub overflow_sub-tests : goal.overflow_sub-tests
overflow_sub-tests c = omega (arith, c.reach_to-r.ensures, reach_ge)

pub overflow_add-tests-in-loop-s : goal.overflow_add-tests-in-loop-s
overflow_add-tests-in-loop-s c = grind (arith, c.from.ensures, c.reach_to-r.ensures, reach_le)

pub returns-then-r-b : goal.returns-then-r-b
returns-then-r-b c =
    try_fit c.loop-s.invariant
    (record { order = omega arith; more = omega arith; inside = omega arith; from = c.saturating_sub-a.ensures; to = c.reach_to-r.ensures; stop = c.from.ensures })
    c.if-r-b.true

pub loop-s-preserved : goal.loop-s-preserved
loop-s-preserved c =
    try_on c.loop-s.invariant
    (record { order = omega arith; more = omega arith; inside = omega arith; from = c.saturating_sub-a.ensures; to = c.reach_to-r.ensures; stop = c.from.ensures })
    c.if-r-b.false (omega arith)

pub returns : goal.returns
returns c = try_end c.loop-s.invariant (omega arith)
