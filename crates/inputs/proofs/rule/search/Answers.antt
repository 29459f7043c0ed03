-- `inputs::rule::search` meets its contract: what the checks say picks the case. Assumes nothing.
use mathlib.Core.Path.{refl, sym, ◌∙◌}
use borrow.Author.Rules.{rules}
use Rattle.inputs.proofs.CheckLaws.{sized}
use Rattle.inputs.proofs.SearchLaws.{search_found}
use Rattle.inputs.proofs.rule.search.Goals as goal

pub run-requires : goal.run-requires
run-requires g c = sized _ _ _ _ _ _ (sym c.checked.ensures ∙ c.in_ok-checked.was)

pub returns-in_err-checked : goal.returns-in_err-checked
returns-in_err-checked g c = rw (sym c.checked.ensures ∙ c.in_err-checked.was) (record { answers = search rules; leaves = refl })

pub returns : goal.returns
returns g c = search_found g.R.Rule.turns _ _ _ c.args.k c.args.p.now c.args.t.now c.args.list.now c.run.result c.run.new.list (sym c.checked.ensures ∙ c.in_ok-checked.was) c.run.ensures.0 c.run.ensures.1
