use Prim.Native.Nat.{ℕ, ◌<◌}
use lib.ListN.{length}
use Rattle.hits.specs.declared.work.Work.{Work}
use Rattle.hits.proofs.LoopLaws.{SoFar}
use Rattle.shiftand.specs.ShiftAnd.{Reading}
use Rattle.shiftand.proofs.ShiftAndLaws.{sound}
use Rattle.shiftand.proofs.ShiftAndRule.run.Given as goal

-- what is counted after so many letters: a word step for each
abbrev pub counted : ℕ → ℕ → Work
counted total read = record { total = total; scan = 0; shift = 0; steps = read }

abbrev pub at : ℕ → ℕ → Reading
at read word = record { read = read; word = word }

abbrev pub invariant-loop-read : goal.invariant-loop-read
invariant-loop-read l = (some : 0 < length l.p) → SoFar (sound l.p l.t some) l.initial.list (at l.read l.word) l.list (counted l.total l.read)
