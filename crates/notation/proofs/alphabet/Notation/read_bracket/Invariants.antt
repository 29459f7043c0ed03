use Prim.Native.Nat.{◌-◌}
use lib.ListN.{length}
use Rattle.notation.proofs.BracketLaws.{InBracket}
use Rattle.notation.proofs.alphabet.Notation.read_bracket.Given as goal

abbrev pub invariant-loop-at : goal.invariant-loop-at
invariant-loop-at l = InBracket l.self l.sheet l.from l.at l.set l.above l.count

abbrev pub decreases-loop-at : goal.decreases-loop-at
decreases-loop-at l = length l.sheet - l.at
