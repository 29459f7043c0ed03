-- `step` of BM meets its contract, by the letters that are left when its scan stops: all, none, or some. Assumes nothing.
use Prim.Native.Nat.{◌-◌}
use native.Mathlib.Omega.{arith}
use lib.ListN.{length}
use Rattle.bm.proofs.BmLaws.{fail_le}
use Rattle.bm.proofs.StepLaws.{stopped, turn_none, turn_hit, turn_fail, by_first, by_larger}
use Rattle.bm.proofs.ReadiedSteps.step.Goals as goal

pub overflow_add-result : goal.overflow_add-result
overflow_add-result c =
    let P = c.args.p.now in
    omega (arith, c.fail_shift.ensures, fail_le P c.args.t.now c.args.i (length P - 1))

pub returns-then-left-m : goal.returns-then-left-m
returns-then-left-m c =
    let r = c.requires.0 in
    turn_none r.sized.some (stopped r.single c.requires.1 c.scan_back-b.ensures) c.if-left-m.true _ c.fail_shift.ensures

pub first_shift-a-requires-clause-stopped : goal.first_shift-a-requires-clause-stopped
first_shift-a-requires-clause-stopped c = stopped c.requires.0.single c.requires.1 c.scan_back-b.ensures

pub overflow_add-result-then-left-eq0 : goal.overflow_add-result-then-left-eq0
overflow_add-result-then-left-eq0 c =
    let r = c.requires.0 in
    omega (arith, by_first r.sized.some (stopped r.single c.requires.1 c.scan_back-b.ensures) _ c.first_shift-a.ensures.0)

pub returns-then-left-eq0 : goal.returns-then-left-eq0
returns-then-left-eq0 c =
    let r = c.requires.0 in
    let w = c.first_shift-a.ensures in
    turn_hit r.sized.some (stopped r.single c.requires.1 c.scan_back-b.ensures) c.if-left-eq0.true _ _ w.0 w.1

pub overflow_add-result-2 : goal.overflow_add-result-2
overflow_add-result-2 c =
    let r = c.requires.0 in
    omega (arith, by_larger r.sized.some (stopped r.single c.requires.1 c.scan_back-b.ensures) _ _ _ c.first_shift-a.ensures.0 c.fail_shift-s.ensures c.max.ensures)

pub returns : goal.returns
returns c =
    let r = c.requires.0 in
    let w = c.first_shift-a.ensures in
    rw c.max.ensures
    (turn_fail r.sized.some (stopped r.single c.requires.1 c.scan_back-b.ensures) (omega arith) _ _ _ w.0 c.fail_shift-s.ensures w.1)
