-- `inputs::checks::is_bad` meets its contract. Assumes nothing.
use native.Mathlib.Omega.{arith}
use Rattle.inputs.proofs.BadLaws.{bad_zero, bad_some, one_shifted}
use Rattle.inputs.proofs.checks.is_bad.Goals as goal

pub returns-then-c-eq0 : goal.returns-then-c-eq0
returns-then-c-eq0 c = let a = c.args in bad_zero a.k a.marks a.c c.if-c-eq0.true

pub returns : goal.returns
returns c = let a = c.args in
    rw (one_shifted a.k (omega arith), c.from.ensures) (bad_some a.k a.marks a.c c.if-c-eq0.false)
