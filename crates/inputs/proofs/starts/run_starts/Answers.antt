-- `inputs::starts::run_starts` meets its contract: the loop stands at a start that is no further than one past the text. Assumes nothing.
use mathlib.Core.Path.{refl}
use native.Mathlib.Omega.{arith}
use Rattle.hits.proofs.LoopLaws.{stand, few, scan_fits, shift_fits, move, all_done}
use Rattle.inputs.proofs.StartLaws.{settled, next_near}
use Rattle.inputs.proofs.starts.run_starts.Goals as goal

pub loop-i-init : goal.loop-i-init
loop-i-init g c =
    let s = c.requires.settles in
    (s, stand (settled s) _)

pub note-total-requires : goal.note-total-requires
note-total-requires g c =
    let h = c.loop-i.invariant in
    omega (arith, few (settled h.0) _ _ _ _ _ _ h.1, c.requires.sized.small)

pub overflow_add-scan : goal.overflow_add-scan
overflow_add-scan g c =
    let h = c.loop-i.invariant in
    omega (arith, scan_fits (settled h.0) _ _ _ _ _ _ h.1 (omega arith) c.step-s.result c.step-s.ensures, c.requires.scan)

pub overflow_add-shift : goal.overflow_add-shift
overflow_add-shift g c =
    let h = c.loop-i.invariant in
    omega (arith, shift_fits (settled h.0) _ _ _ _ _ _ h.1 (omega arith) c.step-s.result c.step-s.ensures, c.requires.shift)

pub loop-i-preserved : goal.loop-i-preserved
loop-i-preserved g c =
    let h = c.loop-i.invariant in
    let e = c.note-total.ensures in (
      h.0,
      move (settled h.0) _ _ _ _ _ _ h.1 (omega arith) c.step-s.result c.step-s.ensures _ _ (next_near h.0 _ (omega arith) c.step-s.result c.step-s.ensures) e.1 e.0 refl refl refl,
    )

pub returns : goal.returns
returns g c =
    let h = c.loop-i.invariant in
    all_done (settled h.0) _ _ _ _ _ _ h.1 (omega arith)
