-- `inputs::checks::any_bad` meets its contract: the pass keeps `Joined`. Assumes nothing.
use native.Mathlib.Omega.{arith}
use mathlib.Core.Path.{◌≡◌, subst}
use Prim.Native.Nat.{ℕ}
use lib.ListN.{length}
use Rattle.inputs.proofs.BadLaws.{Joined, joined_none, joined_some, joined_mark, any_mark, any_high, one_shifted}
use Rattle.inputs.proofs.checks.any_bad.Goals as goal
use Rattle.inputs.proofs.checks.any_bad.Goals.{else-c-eq0, then-c-eq0}

pub loop-c-init : goal.loop-c-init
loop-c-init c = joined_none _ _ _

pub loop-c-preserved : goal.loop-c-preserved
loop-c-preserved c = let a = c.args in
    let s = a.s.now in
    let i = c.loop-c.c-index in
    elim c.if-c-eq0.branch [ then-c-eq0 w ↦ rw w.wrong-is (joined_mark a.k a.marks s c.loop-c.all i c.loop-c.wrong c.loop-c.invariant w.if-c-eq0.true) | else-c-eq0 w ↦ rw w.wrong-is (joined_some a.k a.marks s c.loop-c.all i c.loop-c.wrong c.loop-c.invariant w.if-c-eq0.false) ]

pub returns-then-wrong : goal.returns-then-wrong
returns-then-wrong c = let a = c.args in
    let e : c.loop-c.c-index ≡ length a.s.now = omega arith in
    any_mark a.k a.marks a.s.now c.loop-c.all c.loop-c.wrong (subst (λ (x : ℕ). Joined a.k a.marks a.s.now c.loop-c.all c.loop-c.wrong x) e c.loop-c.invariant) c.if-wrong.true

pub returns : goal.returns
returns c = let a = c.args in
    let e : c.loop-c.c-index ≡ length a.s.now = omega arith in
    rw (one_shifted a.k (omega arith), c.from.ensures)
    (any_high a.k a.marks a.s.now c.loop-c.all c.loop-c.wrong (subst (λ (x : ℕ). Joined a.k a.marks a.s.now c.loop-c.all c.loop-c.wrong x) e c.loop-c.invariant) c.if-wrong.false)
