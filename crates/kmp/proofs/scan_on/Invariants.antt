use Prim.Native.Nat.{ℕ, ◌-◌}
use mathlib.Core.Path.{◌≡◌}
use mathlib.Core.List.{List}
use lib.ListN.{length}
use Rattle.hits.specs.Scans.{reach}
use Rattle.kmp.specs.declared.Standing.{Standing}
use Rattle.kmp.specs.Kmp.{Known, at_of, now_met}
use Rattle.kmp.proofs.scan_on.Given as goal

-- the scan from s has come to j
pub record Came (P T : List ℕ) (s : Standing) (j u : ℕ) : Type 0 where
  pub here : Known P T (record { start = s.start; known = j; unsure = u })
  pub rest : now_met P T (at_of s) ≡ reach P T s.start j (length P - j)

abbrev pub invariant-loop-j : goal.invariant-loop-j
invariant-loop-j l = Came l.p l.t l.fn.s l.j l.last
