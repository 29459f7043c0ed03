-- `products::twice::products_meet_twice` meets its contract, by that of `products_meet` alone. Assumes nothing.
use Rattle.promise.proofs.Uniqueness.{one_answer}
use Rattle.products.proofs.twice.products_meet_twice.Goals as goal

pub returns : goal.returns
returns c = one_answer c.products_meet-first.ensures c.products_meet-second.ensures
