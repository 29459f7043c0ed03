-- `Prepared::new` meets its contract: the letters that the chain takes are the prefix. Assumes nothing.
use Rattle.std.proofs.Common.{◌∙◌, rules, tests}
use Rattle.std.proofs.lemmas.Iterator.{YieldsList-from_slice}
use Rattle.std.proofs.lemmas.Iterator.Consumers.{count_from_yields_List}
use Rattle.std.proofs.lemmas.Iterator.Search.{YieldsList-from_take_while}
use Rattle.std.proofs.lemmas.List.Folds.{length-prefix_len}
use Rattle.letters.specs.Letters.{single}
use Rattle.pattern.specs.Tables.{sure_prefix}
use Rattle.pattern.proofs.Prepared.new.Goals as goal

pub returns : goal.returns
unfolding sure_prefix
returns c =
    let s = c.args.p.now in
    count_from_yields_List c.take_while.result _ c.count.ensures.ran
    (YieldsList-from_take_while _ single (YieldsList-from_slice s cc) c.take_while.ensures.closure c.take_while.ensures.done (λ x b q k. search (rules, tests)))
    ∙ length-prefix_len single s
