-- `inputs::checks::placed` meets its contract: the tests that led to a return say which check refuses. Assumes nothing.
use mathlib.Core.Path.{ap, ◌∙◌}
use Rattle.std.specs.Prelude.{Err}
use native.Mathlib.Omega.{arith}
use Prim.Native.Nat.{◌+◌}
use borrow.Author.Tests.{lt-ltb, le-ltb}
use Rattle.inputs.specs.Refusals.{refuse}
use Rattle.inputs.proofs.checks.placed.Goals as goal

pub returns-then-n-m : goal.returns-then-n-m
unfolding refuse
returns-then-n-m c = let a = c.args in
    ap Err c.at.ensures ∙ rw (lt-ltb a.n (a.start + a.m) (omega arith))

pub returns-then-n-m-2 : goal.returns-then-n-m-2
unfolding refuse
returns-then-n-m-2 c = let a = c.args in
    ap Err c.at-then-n-m-2.ensures ∙ rw (lt-ltb a.n (a.start + a.m) (omega arith))

pub returns-then-lent-m : goal.returns-then-lent-m
unfolding refuse
returns-then-lent-m c = let a = c.args in
    ap Err c.at-then-lent-m.ensures ∙ rw (le-ltb a.n (a.start + a.m) (omega arith), lt-ltb a.lent a.m (omega arith))

pub returns : goal.returns
unfolding refuse
returns c = let a = c.args in
    rw (le-ltb a.n (a.start + a.m) (omega arith), le-ltb a.lent a.m (omega arith))
