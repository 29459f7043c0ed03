-- `sunday::Sunday::step` meets its contract: how far the scan went says whether it is a hit and how many tests it took. Assumes nothing.
use Rattle.hits.proofs.ScanLaws.{whole_scan}
use Rattle.sunday.specs.Sunday.{sunday_turn}
use Rattle.sunday.proofs.SundaySteps.step.Goals as goal

pub returns : goal.returns
unfolding sunday_turn
returns c =
    let w = whole_scan _ _ _ _ _ c.reach_to-j.ensures c.from.ensures in
    rw (w.1, c.next_start.ensures, w.0)
