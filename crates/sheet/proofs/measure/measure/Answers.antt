-- `sheet::measure::measure` meets its contract: it answers what reading by the plan answers. Assumes nothing.
use mathlib.Core.Path.{◌≡◌, refl, sym, ◌∙◌}
use native.Mathlib.Omega.{arith}
use borrow.Author.Rules.{rules}
use Rattle.std.specs.Prelude.{Err}
use Rattle.sheet.proofs.PromiseLaws.{lines_found, not_read, read_whole, measured}
use Rattle.sheet.proofs.measure.measure.Goals as goal

pub returns-in_err-plan : goal.returns-in_err-plan
returns-in_err-plan c =
    let r : c.from_residual.result ≡ Err c.in_err-plan.field-0.0 = search rules in
    rw r (record { promise = measured _ _ _ _ _ _ _ _ (not_read _ _ _ _ _ _ _ (sym c.in_err-plan.was ∙ c.plan.ensures)) })

pub sizes_of-requires : goal.sizes_of-requires
sizes_of-requires c =
    let a = c.args in
    let f = (lines_found _ _ _ _ _ (record { alphabet = a.alphabet.now; pattern = a.pattern.now; text = a.text.now }) _ (sym c.in_ok-plan.was ∙ c.plan.ensures)).alphabet in
    omega (arith, f.size, f.few)

pub returns : goal.returns
returns c =
    let a = c.args in
    let f = lines_found _ _ _ _ _ (record { alphabet = a.alphabet.now; pattern = a.pattern.now; text = a.text.now }) _ (sym c.in_ok-plan.was ∙ c.plan.ensures) in
    rw c.sizes_of.ensures (record { promise = measured _ _ _ _ _ _ _ _ (read_whole _ _ _ _ _ _ _ f _ _ _ refl refl refl) })
