-- `kmp::scan_on` meets its contract: the scan from the letter that it has come to ends where the whole scan ends. Assumes nothing.
use Prim.Native.Nat.{ℕ, ◌+◌, ◌<◌}
use mathlib.Core.List.{List}
use mathlib.Core.Bool.{true}
use lib.ListN.{get_or}
use Rattle.letters.specs.Letters.{meets}
use mathlib.Core.Path.{◌≡◌, refl, sym, ◌∙◌}
use native.Mathlib.Omega.{arith}
use lib.ListN.{length}
use Rattle.letters.proofs.LetterLaws.{compared}
use Rattle.hits.proofs.MetLaws.{met_on}
use Rattle.hits.proofs.ScanLaws.{reach_on, reach_stop, reach_end}
use Rattle.kmp.specs.declared.Standing.{Standing}
use Rattle.kmp.specs.Kmp.{NotSingleAt, now_met}
use Rattle.kmp.proofs.CarryLaws.{not_single_past, not_single_seen}
use Rattle.kmp.proofs.scan_on.Invariants.{Came}
use Rattle.kmp.proofs.scan_on.Goals as goal
use Rattle.kmp.proofs.scan_on.Goals.{then-not-lone, else-not-lone}

pub loop-j-init : goal.loop-j-init
unfolding now_met
loop-j-init c = record { here = c.requires; rest = refl }

pub returns-then-common-eq0 : goal.returns-then-common-eq0
returns-then-common-eq0 c =
    let n = (compared c.common.ensures).none c.if-common-eq0.true in
    record { same = refl; met = sym (c.loop-j.invariant.rest ∙ reach_stop _ _ _ _ _ (omega arith) n); here = c.loop-j.invariant.here }

-- the letter at j meets, so the scan has come to the next
past : (P T : List ℕ) (s : Standing) (j v u : ℕ) → Came P T s j v → j < length P → meets (get_or P j 0) (get_or T (s.start + j) 0) ≡ true
    → NotSingleAt T s.start (j + 1) u → Came P T s (j + 1) u
past P T s j v u w l y e =
    record {
      here = record { inside = w.here.inside; short = omega arith; meet = met_on P T s.start j w.here.meet y; carried = e };
      rest = w.rest ∙ reach_on P T s.start (length P) j (omega arith) y;
    }

pub loop-j-preserved : goal.loop-j-preserved
loop-j-preserved c =
    let a = c.args in
    let j = c.loop-j.j in
    let y = (compared c.common.ensures).some c.if-common-eq0.false in
    elim c.if-not-lone.branch [
      | then-not-lone w ↦
          rw w.last-is (past _ _ _ j _ _ c.loop-j.invariant (omega arith) y (not_single_seen a.t.now a.s.start j (sym c.lone.ensures ∙ w.if-not-lone.true)))
      | else-not-lone w ↦
          rw w.last-is (past _ _ _ j _ _ c.loop-j.invariant (omega arith) y (not_single_past a.t.now a.s.start j _ c.loop-j.invariant.here.carried (sym c.lone.ensures ∙ w.if-not-lone.false)))
    ]

pub returns : goal.returns
returns c =
    let w = c.loop-j.invariant in
    let e : c.loop-j.j ≡ length c.args.p.now = omega (arith, w.here.short) in
    record { same = refl; met = sym (w.rest ∙ reach_end _ _ _ _ _ (omega arith) ∙ e); here = rw e at w.here }
