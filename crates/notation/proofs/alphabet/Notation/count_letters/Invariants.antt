use Rattle.std.proofs.Common.{ℕ, ◌-◌, List, length}
use Rattle.notation.proofs.WalkLaws.{Walked}
use Rattle.notation.proofs.alphabet.Notation.count_letters.Given as goal

abbrev pub invariant-loop-next : goal.invariant-loop-next
invariant-loop-next l = (past : List ℕ) × Walked l.marks l.self l.sheet l.from l.at l.n past

abbrev pub decreases-loop-next : goal.decreases-loop-next
decreases-loop-next l = length l.sheet - l.at
