use Prim.Native.Nat.{◌+◌}
use lib.ListN.{get_or}
use Rattle.lent.proofs.FillLaws.{Filled}
use Rattle.choices.specs.Candidates.{tie_of}
use Rattle.choices.proofs.ties.Ties.find.Given as goal

abbrev pub invariant-loop-j : goal.invariant-loop-j
invariant-loop-j l = record {
  above : Filled 0 (λ h. tie_of l.p l.t l.i (get_or l.p h 0) h) l.initial.self.above l.j l.self.above;
  under : Filled 0 (λ h. tie_of l.p l.t l.i (get_or l.t (l.i + h) 0) h) l.initial.self.under l.j l.self.under;
}
