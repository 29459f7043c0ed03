use Prim.Native.Nat.{ℕ, ◌+◌, ◌-◌}
use Rattle.hits.specs.declared.work.Work.{Work}
use Rattle.kmp.proofs.StandLaws.{KmpStanding}
use Rattle.kmp.proofs.KmpRule.run.Given as goal

abbrev pub counted : ℕ → ℕ → ℕ → Work
counted total scan shift = record { total = total; scan = scan; shift = shift; steps = 0 }

abbrev pub invariant-loop-s : goal.invariant-loop-s
invariant-loop-s l = KmpStanding l.p l.t l.initial.list l.m l.n l.s l.list (counted l.total l.scan l.shift)

abbrev pub decreases-loop-s : goal.decreases-loop-s
decreases-loop-s l = l.n + 1 - l.s.start
