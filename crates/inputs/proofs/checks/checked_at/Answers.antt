-- `inputs::checks::checked_at` meets its contract: what the checks of a search say picks the case. Assumes nothing.
use mathlib.Core.Path.{sym, ◌∙◌}
use borrow.Author.Rules.{rules}
use Rattle.inputs.specs.Refusals.{verdict_at}
use Rattle.inputs.proofs.checks.checked_at.Goals as goal

pub returns-in_err-checked : goal.returns-in_err-checked
unfolding verdict_at
returns-in_err-checked c = rw (sym c.checked.ensures ∙ c.in_err-checked.was) (search rules)

pub returns : goal.returns
unfolding verdict_at
returns c = rw (sym c.checked.ensures ∙ c.in_ok-checked.was) c.placed.ensures
