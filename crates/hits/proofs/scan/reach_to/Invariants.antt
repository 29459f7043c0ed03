use Rattle.std.proofs.Common.{◌≡◌, ◌-◌}
use Rattle.hits.specs.Scans.{reach}
use Rattle.hits.proofs.scan.reach_to.Given as goal

-- from j on the scan goes as far as from a
abbrev pub invariant-loop-j : goal.invariant-loop-j
invariant-loop-j l = reach l.p l.t l.i l.a (l.b - l.a) ≡ reach l.p l.t l.i l.j (l.b - l.j)
