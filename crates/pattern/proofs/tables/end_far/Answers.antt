-- `tables::end_far` meets its contract: the scan from the right says how many letters meet. Assumes nothing.
use native.Mathlib.Omega.{arith}
use mathlib.Core.Path.{sym, ◌∙◌}
use Prim.Native.Nat.{◌-◌}
use lib.ListN.{length}
use Rattle.hits.proofs.BackLaws.{back_le}
use Rattle.pattern.proofs.ShiftTable.{far_all, far_some}
use Rattle.pattern.proofs.tables.end_far.Goals as goal

pub returns-then-met-rest : goal.returns-then-met-rest
returns-then-met-rest c =
    let a = c.args in
    (sym (far_all a.p.now a.s (sym c.scan_back-b.ensures.1 ∙ c.if-met-rest.true)), omega arith)

pub returns-else-met-rest : goal.returns-else-met-rest
returns-else-met-rest c =
    let a = c.args in
    let e = c.scan_back-b.ensures.1 in (
      e ∙ sym (far_some a.p.now a.s (λ z. c.if-met-rest.false (e ∙ z))),
      omega (arith, e, back_le a.p.now a.p.now a.s (length a.p.now - a.s)),
    )
