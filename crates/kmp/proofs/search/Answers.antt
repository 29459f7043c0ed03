-- `kmp::search` meets its contract: the search of any engine, with what KMP's run costs. Assumes nothing.
use Rattle.inputs.proofs.SearchLaws.{scan_most, shift_most}
use Rattle.kmp.specs.Kmp.{kmp_run}
use Rattle.kmp.proofs.KmpLaws.{kmp_scan, kmp_shift}
use Rattle.kmp.proofs.search.Goals as goal

pub returns : goal.returns
returns c =
    let P = c.args.p.now in
    let T = c.args.t.now in
    let e = c.search.ensures in
    record {
      promise = e;
      scan_bound = λ l. scan_most kmp_run _ _ _ _ _ _ _ _ _ e _ (kmp_scan P T);
      shift_bound = λ l. shift_most kmp_run _ _ _ _ _ _ _ _ _ e _ (kmp_shift P T);
    }
