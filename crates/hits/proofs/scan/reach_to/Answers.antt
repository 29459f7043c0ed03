-- `hits::scan::reach_to` meets its contract: what is left of the scan reaches as far as the whole. Assumes nothing.
use Rattle.std.proofs.Common.{◌≡◌, arith, sym, ◌∙◌}
use Rattle.letters.proofs.LetterLaws.{compared}
use Rattle.hits.proofs.ScanLaws.{reach_on, reach_stop, reach_end}
use Rattle.hits.proofs.scan.reach_to.Goals as goal

pub returns-then-common-eq0 : goal.returns-then-common-eq0
returns-then-common-eq0 c = sym (c.loop-j.invariant ∙ reach_stop _ _ _ _ _ (omega arith) ((compared c.common.ensures).none c.if-common-eq0.true))

pub loop-j-preserved : goal.loop-j-preserved
loop-j-preserved c = c.loop-j.invariant ∙ reach_on _ _ _ _ _ (omega arith) ((compared c.common.ensures).some c.if-common-eq0.false)

pub returns : goal.returns
returns c =
    let e : c.loop-j.j ≡ c.args.b = omega arith in
    sym (c.loop-j.invariant ∙ reach_end _ _ _ _ _ (omega arith) ∙ e)
