-- `hybrid::steps_from` meets its contract: at each letter, what is noted and what the steps ahead will note is what all steps note. Assumes nothing.
use mathlib.Core.Path.{◌≡◌, ap}
use native.Mathlib.Omega.{arith}
use lib.ListN.{length}
use Rattle.hybrid.proofs.StretchLoop.{step, alive_on, at_end, at_zero}
use Rattle.hybrid.proofs.steps_from.Goals as goal

pub returns-then-d-eq0 : goal.returns-then-d-eq0
returns-then-d-eq0 c =
    let w =
    step c.loop-e.d c.loop-e.invariant _ c.step-d.result c.note_end-count.new.list c.note_end-count.result c.ends.result (ap length c.letters-m.ensures.0) (omega arith)
    c.step-d.ensures c.ends.ensures c.note_end-count.ensures.1 c.note_end-count.ensures.0 in
    rw c.ran.ensures (at_zero c.step-d.result w (omega arith))

pub loop-e-preserved : goal.loop-e-preserved
loop-e-preserved c =
    let w =
    step c.loop-e.d c.loop-e.invariant _ c.step-d.result c.note_end-count.new.list c.note_end-count.result c.ends.result (ap length c.letters-m.ensures.0) (omega arith)
    c.step-d.ensures c.ends.ensures c.note_end-count.ensures.1 c.note_end-count.ensures.0 in
    alive_on c.step-d.result w (λ z. omega arith)

pub returns : goal.returns
returns c =
    let all : c.loop-e.e ≡ length c.args.t.now = omega arith in
    rw c.ran-2.ensures (rw all at (at_end c.loop-e.d c.loop-e.invariant (omega arith)))
