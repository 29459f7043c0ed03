-- `sunday::next_start` meets its contract: the letter after the window is read only if there is one, and its R gives the shift. Assumes nothing.
use mathlib.Core.Path.{sym}
use native.Mathlib.Omega.{arith}
use Rattle.sunday.proofs.SundayLaws.{next_end, next_by}
use Rattle.sunday.proofs.next_start.Goals as goal

pub returns-then-e-t : goal.returns-then-e-t
returns-then-e-t c = sym (next_end _ _ _ c.if-e-t.true)

pub overflow_sub-result : goal.overflow_sub-result
overflow_sub-result c = omega (arith, next_by _ _ _ c.if-e-t.false _ c.after_r.ensures)

pub returns : goal.returns
returns c = omega (arith, next_by _ _ _ c.if-e-t.false _ c.after_r.ensures)
