-- `tables::least_shifts` meets its contract: the entries below h are right, and no s passed is enough for h. Assumes nothing.
use native.Mathlib.Omega.{arith}
use mathlib.Core.Path.{refl}
use Rattle.pattern.proofs.TableLaws.{built_start, next_top, built_on, built_end}
use Rattle.pattern.proofs.tables.least_shifts.Goals as goal

pub loop-h-init : goal.loop-h-init
loop-h-init c = built_start _ _ _ (omega arith)

pub overflow_cast-out : goal.overflow_cast-out
overflow_cast-out c = omega (arith, next_top c.loop-h.invariant (omega arith) _ c.next_far-s.ensures)

pub loop-h-preserved : goal.loop-h-preserved
loop-h-preserved c = built_on c.loop-h.invariant (omega arith) _ c.next_far-s.ensures (omega arith)

pub returns-2 : goal.returns-2
returns-2 c = built_end (built_on c.loop-h.invariant (omega arith) _ c.next_far-s.ensures (omega arith)) (omega arith) _ refl
