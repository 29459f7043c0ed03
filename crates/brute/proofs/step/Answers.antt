-- `brute::step` meets its contract: how far the scan went says whether it is a hit and how many tests it took. Assumes nothing.
use Rattle.hits.proofs.ScanLaws.{whole_scan}
use Rattle.brute.specs.Brute.{brute_turn}
use Rattle.brute.proofs.step.Goals as goal

pub returns : goal.returns
unfolding brute_turn
returns c =
    let w = whole_scan _ _ _ _ _ c.reach_to-j.ensures c.from.ensures in
    rw (w.1, w.0)
