use Prim.Native.Nat.{ℕ, ◌+◌, ◌-◌}
use Rattle.hits.specs.declared.work.Work.{Work}
use Rattle.hits.proofs.LoopLaws.{Standing}
use Rattle.inputs.specs.Starts.{Settling}
use Rattle.inputs.proofs.StartLaws.{settled}
use Rattle.inputs.proofs.starts.run_starts.Given as goal

abbrev pub counted : ℕ → ℕ → ℕ → Work
counted total scan shift = record { total = total; scan = scan; shift = shift; steps = 0 }

abbrev pub invariant-loop-i : goal.invariant-loop-i
invariant-loop-i g l = (s : Settling l.p l.t (g.S.Starts.turn l.p l.t)) × Standing (settled s) l.initial.list l.m l.n l.i l.list (counted l.total l.scan l.shift)

abbrev pub decreases-loop-i : goal.decreases-loop-i
decreases-loop-i g l = l.n + 1 - l.i
