-- `Masked::step` meets its contract: the step with the pattern's rows is the rule's. Assumes nothing.
use mathlib.Core.Path.{◌∙◌}
use Rattle.word.proofs.RowLaws.{rows_step}
use Rattle.word.proofs.masked.Masked.step.Goals as goal

pub returns : goal.returns
returns c =
    let a = c.args in
    rw (← c.self.view_is) (c.advance.ensures ∙ rows_step _ c.self.inside.pattern.now c.self.inside.masks.now.rows a.c a.d c.self.invariant.1 c.ranges.c.fits)
