-- `tables::next_far` meets its contract: the first entry that is large enough is the least. Assumes nothing.
use native.Mathlib.Omega.{arith}
use mathlib.Core.Path.{◌≡◌, ◌∙◌}
use mathlib.Core.Bool.{true, false}
use Rattle.std.proofs.Common.{rules, tests}
use Rattle.std.proofs.lemmas.Iterator.{first_from_Range}
use Rattle.shifts.proofs.LeastLaws.{least_found}
use Rattle.pattern.proofs.TableLaws.{enough}
use Rattle.pattern.proofs.tables.next_far.Goals as goal

pub returns : goal.returns
returns c =
    let b = enough c.args.far.now c.args.h in
    c.unwrap_or.ensures
    ∙ least_found b c.args.m c.args.s c.find.result (omega arith)
    (first_from_Range _ _ _ _ (λ x. b x ≡ true) (λ x. b x ≡ false) c.find.ensures.ran (λ x q k. search (rules, tests)) (λ x q k. search (rules, tests)))
