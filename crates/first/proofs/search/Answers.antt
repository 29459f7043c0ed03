-- `first::search` meets its contract: what the checks say picks the case. Assumes nothing.
use mathlib.Core.Path.{refl, sym, ap, ◌∙◌}
use borrow.Author.Rules.{rules}
use Rattle.std.specs.Prelude.{Ok}
use Rattle.inputs.proofs.CheckLaws.{sized}
use Rattle.first.proofs.FirstLaws.{first_bound}
use Rattle.first.proofs.search.Goals as goal

pub run-requires : goal.run-requires
run-requires c = sized _ _ _ _ _ _ (sym c.checked.ensures ∙ c.in_ok-checked.was)

pub returns-in_err-checked : goal.returns-in_err-checked
returns-in_err-checked c = record { promise = record { answers = rw (sym c.checked.ensures ∙ c.in_err-checked.was) (search rules); leaves = refl }; bound = search rules }

pub returns : goal.returns
returns c =
    let a = c.args in
    record {
      promise = record { answers = rw (sym c.checked.ensures ∙ c.in_ok-checked.was) (ap Ok c.run.ensures); leaves = refl };
      bound = rw c.run.ensures (first_bound a.p.now a.t.now);
    }
