use Prim.Native.Nat.{ℕ}
use mathlib.Core.Path.{◌≡◌}
use mathlib.Core.List.{List}
use lib.ListN.{length, take}
use Rattle.hits.specs.declared.work.Work.{Work}
use Rattle.engines.specs.Engines.{the_six}
use Rattle.report.specs.Values.{works_of}
use Rattle.report.proofs.values.searched.Given as goal

-- the first i of the six have counted
pub record Counting (P T : List ℕ) (works : List Work) (i : ℕ) : Type 0 where
  pub all : length works ≡ length the_six
  pub done : take i works ≡ take i (works_of P T)

abbrev pub invariant-loop-i : goal.invariant-loop-i
invariant-loop-i l = Counting l.p l.t l.works l.i
