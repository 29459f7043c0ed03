-- `sunday::search` meets its contract: the search of any engine keeps the promise, and what its run counts is the bound. Assumes nothing.
use Rattle.inputs.proofs.SearchLaws.{scan_most}
use Rattle.sunday.specs.Sunday.{sunday_run}
use Rattle.sunday.proofs.SundayLaws.{sunday_scan}
use Rattle.sunday.proofs.search.Goals as goal

pub returns : goal.returns
returns c =
    let a = c.args in
    record { promise = c.search.ensures; bound = scan_most sunday_run _ _ _ _ _ _ _ _ _ c.search.ensures _ (sunday_scan a.p.now a.t.now) }
