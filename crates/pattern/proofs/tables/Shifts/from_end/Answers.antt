-- `Shifts::from_end` meets its contract: the least s that is far enough is the least shift. Assumes nothing.
use Rattle.std.proofs.Common.{rules}
use mathlib.Core.Path.{◌∙◌}
use Rattle.pattern.specs.Tables.{end_shifts}
use Rattle.pattern.proofs.ShiftTable.{far_shifts, end_far_lem}
use Rattle.pattern.proofs.tables.Shifts.from_end.Goals as goal

pub returns : goal.returns
unfolding end_shifts
returns c = c.least_shifts-by.ensures ∙ far_shifts _ _ c.fars-far.result _ _ (λ s a b. let x = c.fars-far.ensures s a b in search rules) (λ g s l. end_far_lem _ s g l)
