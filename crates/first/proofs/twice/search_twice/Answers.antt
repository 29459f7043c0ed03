-- `first::twice::search_twice` meets its contract, by that of `search` alone. Assumes nothing.
use Rattle.promise.proofs.Uniqueness.{one_answer}
use Rattle.first.proofs.twice.search_twice.Goals as goal

pub returns : goal.returns
returns c = one_answer c.search-first.ensures.promise c.search-second.ensures.promise
