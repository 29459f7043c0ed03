use lib.ListN.{length}
use Rattle.hits.proofs.HeadLaws.{Looking}
use Rattle.brute.specs.Brute.{brute_turn}
use Rattle.first.proofs.run.Given as goal

abbrev pub invariant-loop-i : goal.invariant-loop-i
invariant-loop-i l = Looking l.p l.t (brute_turn l.p l.t) (length l.p) (length l.t) l.i l.scan
