-- `tables::front_far` meets its contract: the scan from the left says how far. Assumes nothing.
use native.Mathlib.Omega.{arith}
use mathlib.Core.Path.{◌≡◌}
use Prim.Native.Nat.{◌-◌}
use lib.ListN.{length}
use Rattle.hits.specs.Scans.{reach}
use Rattle.hits.proofs.ScanLaws.{reach_le}
use Rattle.pattern.proofs.tables.front_far.Goals as goal

pub overflow_add-result : goal.overflow_add-result
overflow_add-result c = omega (arith, c.reach_to.ensures, reach_le)

pub returns : goal.returns
returns c =
    let a = c.args in
    let z : length a.p.now - a.s - 0 ≡ length a.p.now - a.s = omega arith in
    let e : c.reach_to.result ≡ reach a.p.now a.p.now a.s 0 (length a.p.now - a.s) = rw (c.reach_to.ensures, z) in
    (omega arith, omega (arith, reach_le))
