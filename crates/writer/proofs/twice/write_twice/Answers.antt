-- `writer::twice::write_twice` meets its contract, by that of `write` alone. Assumes nothing.
use mathlib.Core.Path.{sym}
use Rattle.promise.proofs.Uniqueness.{one_outcome}
use Rattle.writer.proofs.twice.write_twice.Goals as goal

pub returns : goal.returns
returns c = one_outcome c.write-first.ensures.promise (rw (sym c.requires) at c.write-second.ensures.promise)
