-- `hits::scan::scan_back` meets its contract: what was passed meets, and the letter that stops it does not. Assumes nothing.
use Rattle.std.proofs.Common.{◌≡◌, ◌+◌, ◌-◌, arith, sym, ◌∙◌}
use Rattle.letters.proofs.LetterLaws.{compared}
use Rattle.hits.proofs.BackLaws.{back_down, back_end, back_none}
use Rattle.hits.proofs.SureLaws.{sure_start, sure_on, sure_off}
use Rattle.hits.proofs.scan.scan_back.Goals as goal

pub loop-j-init : goal.loop-j-init
loop-j-init c = record { ahead = omega arith; singles = sure_start _ _ _ _ }

pub returns-then-common-eq0 : goal.returns-then-common-eq0
returns-then-common-eq0 c = let a = c.args in
    let z : c.loop-j.j - 1 + 1 ≡ c.loop-j.j = omega arith in
    let n = back_end a.p.now a.t.now a.i c.loop-j.j (omega arith) ((compared c.common.ensures).none c.if-common-eq0.true) in
    rw z (omega arith, omega (arith, c.loop-j.invariant.ahead), c.loop-j.invariant.singles)

pub loop-j-preserved-then-sure : goal.loop-j-preserved-then-sure
loop-j-preserved-then-sure c = let a = c.args in
    let y = back_down a.p.now a.t.now a.i c.loop-j.j (omega arith) ((compared c.common.ensures).some c.if-common-eq0.false) in
    record {
      ahead = omega (arith, c.loop-j.invariant.ahead);
      singles = c.lone-sure.ensures ∙ sure_on _ _ _ _ _ (omega arith) (omega arith) (sym c.loop-j.invariant.singles ∙ c.if-sure.true);
    }

pub loop-j-preserved : goal.loop-j-preserved
loop-j-preserved c = let a = c.args in
    let y = back_down a.p.now a.t.now a.i c.loop-j.j (omega arith) ((compared c.common.ensures).some c.if-common-eq0.false) in
    record {
      ahead = omega (arith, c.loop-j.invariant.ahead);
      singles = c.if-sure.false ∙ sure_off _ _ _ _ _ (omega arith) (omega arith) (sym c.loop-j.invariant.singles ∙ c.if-sure.false);
    }

pub returns : goal.returns
returns c =
    let z : c.loop-j.j ≡ 0 = omega arith in
    let ahead = rw (z, back_none) at c.loop-j.invariant.ahead in
    let singles = rw z at c.loop-j.invariant.singles in
    (omega arith, omega (arith, ahead), singles)
