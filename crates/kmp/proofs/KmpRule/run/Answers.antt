-- `run` of KMP meets its contract: the loop stands at a start with some letters known. Assumes nothing.
use mathlib.Core.Path.{refl}
use native.Mathlib.Omega.{arith}
use Rattle.kmp.proofs.KmpLaws.{kmp_scan_small, kmp_shift_small}
use Rattle.kmp.proofs.StandLaws.{stand, same_room, few, known, scan_fits, shift_fits, on, move, all_done}
use Rattle.kmp.proofs.KmpRule.run.Goals as goal

pub loop-s-init : goal.loop-s-init
loop-s-init c = stand _ _ _

pub invariant_of-ready : goal.invariant_of-ready
invariant_of-ready c = record { ready = record { sized = c.requires.pattern; prefix = c.new-sure.ensures; shifts = c.from_front-shifts.ensures } }

pub step-turn-requires : goal.step-turn-requires
step-turn-requires c = known c.loop-s.invariant (omega arith)

pub note-total-requires : goal.note-total-requires
note-total-requires c = omega (arith, few c.loop-s.invariant, c.requires.small)

pub overflow_add-scan : goal.overflow_add-scan
overflow_add-scan c = omega (arith, scan_fits c.loop-s.invariant (omega arith) c.step-turn.result c.step-turn.ensures.0, kmp_scan_small c.requires)

pub overflow_add-shift : goal.overflow_add-shift
overflow_add-shift c = omega (arith, shift_fits c.loop-s.invariant (omega arith) c.step-turn.result c.step-turn.ensures.0, kmp_shift_small c.requires)

pub loop-s-smaller : goal.loop-s-smaller
loop-s-smaller c = omega (arith, on c.loop-s.invariant (omega arith) c.step-turn.result c.step-turn.ensures.0, c.loop-s.invariant.top)

pub loop-s-preserved : goal.loop-s-preserved
loop-s-preserved c = move c.loop-s.invariant (omega arith) c.step-turn.result c.step-turn.ensures.0 c.step-turn.ensures.1 _ _ c.note-total.ensures.1 c.note-total.ensures.0 refl refl refl

pub shape_of-list : goal.shape_of-list
shape_of-list c = same_room c.loop-s.invariant

pub returns : goal.returns
returns c = all_done c.loop-s.invariant (omega arith)
