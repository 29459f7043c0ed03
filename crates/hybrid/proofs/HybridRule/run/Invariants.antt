use Prim.Native.Nat.{ℕ, ◌+◌, ◌-◌, ◌<◌}
use lib.ListN.{length}
use Rattle.hits.specs.declared.work.Work.{Work}
use Rattle.hits.proofs.LoopLaws.{Standing}
use Rattle.hybrid.proofs.HybridLaws.{sound}
use Rattle.hybrid.proofs.HybridRule.run.Given as goal

abbrev pub counted : ℕ → ℕ → ℕ → Work
counted total scan steps = record { total = total; scan = scan; shift = 0; steps = steps }

abbrev pub invariant-loop-a : goal.invariant-loop-a
invariant-loop-a l = (s : 0 < length l.p) × Standing (sound l.p l.t s) l.initial.list l.m l.n l.a l.list (counted l.total l.scan l.steps)

abbrev pub decreases-loop-a : goal.decreases-loop-a
decreases-loop-a l = l.n + 1 - l.a
