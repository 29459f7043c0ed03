-- `reasons::twice::shared_at_twice` meets its contract, by that of `shared_at` alone. Assumes nothing.
use mathlib.Core.Path.{sym}
use Rattle.promise.proofs.Uniqueness.{one_outcome}
use Rattle.reasons.proofs.twice.shared_at_twice.Goals as goal

pub returns : goal.returns
returns c = one_outcome c.shared_at-first.ensures (rw (sym c.requires) at c.shared_at-second.ensures)
