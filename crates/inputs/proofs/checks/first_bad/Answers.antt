-- `inputs::checks::first_bad` meets its contract: what `position` finds is the first. Assumes nothing.
use mathlib.Core.Path.{ap, ◌∙◌}
use lib.ListN.{length}
use Rattle.std.specs.Option.{unwrap_or}
use Rattle.letters.proofs.FirstLaws.{found_first}
use Rattle.inputs.specs.Refusals.{bad}
use Rattle.inputs.proofs.checks.first_bad.Goals as goal

pub returns : goal.returns
returns c = let a = c.args in
    c.unwrap_or.ensures ∙ ap (λ o. unwrap_or o (length a.s.now)) c.bad_at.ensures ∙ found_first (bad a.marks a.k) a.s.now
