use mathlib.Core.Path.{◌≡◌}
use lib.ListN.{length}
use Rattle.std.specs.List.{sum}
use Rattle.choices.specs.Candidates.{Candidates}
use Rattle.choices.proofs.settle.Given as goal

abbrev pub invariant-loop-ties : goal.invariant-loop-ties
invariant-loop-ties l = record { cands : Candidates l.p l.t l.i l.own; room : length l.own ≡ length l.p }

abbrev pub decreases-loop-ties : goal.decreases-loop-ties
decreases-loop-ties l = sum l.own
