-- `brute::search` meets its contract: the search of any engine keeps the promise, and what its run counts is the bound. Assumes nothing.
use Rattle.inputs.proofs.SearchLaws.{scan_most}
use Rattle.brute.specs.Brute.{brute_run}
use Rattle.brute.proofs.BruteLaws.{brute_scan}
use Rattle.brute.proofs.search.Goals as goal

pub returns : goal.returns
returns c =
    let a = c.args in
    record { promise = c.search.ensures; bound = scan_most brute_run _ _ _ _ _ _ _ _ _ c.search.ensures _ (brute_scan a.p.now a.t.now) }
