-- `bm::search` meets its contract: the search of any engine, with what BM's run costs. Assumes nothing.
use Rattle.inputs.proofs.SearchLaws.{scan_most, shift_most}
use Rattle.bm.specs.Bm.{bm_run}
use Rattle.bm.proofs.BmLaws.{bm_scan, bm_shift}
use Rattle.bm.proofs.search.Goals as goal

pub returns : goal.returns
returns c =
    let P = c.args.p.now in
    let T = c.args.t.now in
    let e = c.search.ensures in
    record {
      promise = e;
      scan = scan_most bm_run _ _ _ _ _ _ _ _ _ e _ (bm_scan P T);
      shift = shift_most bm_run _ _ _ _ _ _ _ _ _ e _ (bm_shift P T);
    }
