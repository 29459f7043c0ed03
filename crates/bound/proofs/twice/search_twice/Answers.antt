-- `bound::twice::search_twice` meets its contract, by that of `search` alone. Assumes nothing.
use mathlib.Core.Path.{sym}
use Rattle.promise.proofs.Uniqueness.{one_outcome}
use Rattle.bound.proofs.twice.search_twice.Goals as goal

pub returns : goal.returns
returns c = one_outcome c.search-first.ensures (rw (sym c.requires) at c.search-second.ensures)
