use Rattle.std.proofs.Common.{◌≡◌, ℕ, ◌-◌, Bool, List, length}
use Rattle.lent.specs.Over.{over}
use Rattle.notation.proofs.WalkLaws.{Walked}
use Rattle.notation.proofs.alphabet.Notation.put_letters.Given as goal

-- the letters so far stand over the front of the lent list
pub record Put (marks : Bool) (A s : List ℕ) (from at i : ℕ) (d list : List ℕ) : Type 0 where
  pub past : List ℕ
  pub walked : Walked marks A s from at i past
  pub lists : list ≡ over past d

abbrev pub invariant-loop-set : goal.invariant-loop-set
invariant-loop-set l = Put l.marks l.self l.sheet l.from l.at l.i l.initial.list l.list

abbrev pub decreases-loop-set : goal.decreases-loop-set
decreases-loop-set l = length l.sheet - l.at
