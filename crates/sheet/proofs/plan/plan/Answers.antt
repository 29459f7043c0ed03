-- `sheet::plan::plan` meets its contract: what the sections say, one after the other, is the plan. Assumes nothing.
use mathlib.Core.Path.{◌≡◌, sym, ap, ◌∙◌}
use borrow.Author.Rules.{rules}
use borrow.Author.Tests.{lt-ltb, le-ltb}
use Rattle.std.specs.Prelude.{Err}
use Rattle.sheet.specs.Reader.{planning, refuse_at}
use Rattle.sheet.proofs.PlanLaws.{alphabet_known, not_found, strings_refused, whole}
use Rattle.sheet.proofs.plan.plan.Goals as goal

pub returns-then-sheet-gt-MAX_BYTES : goal.returns-then-sheet-gt-MAX_BYTES
unfolding planning refuse_at
returns-then-sheet-gt-MAX_BYTES c = rw (lt-ltb _ _ c.if-sheet-gt-MAX_BYTES.true) (ap Err c.at.ensures)

pub returns-in_err-first : goal.returns-in_err-first
unfolding planning refuse_at
returns-in_err-first c =
    rw (le-ltb _ _ c.if-sheet-gt-MAX_BYTES.false, not_found _ _ (sym c.in_err-first.was ∙ c.alphabet_section.ensures)) (search rules)

pub strings_after-requires : goal.strings_after-requires
strings_after-requires c =
    let a = alphabet_known _ _ _ _ (sym c.in_ok-first.was ∙ c.alphabet_section.ensures) in
    (a.part.within, a.part.few, a.ends)

pub returns-in_err-both : goal.returns-in_err-both
returns-in_err-both c =
    let a = alphabet_known _ _ _ _ (sym c.in_ok-first.was ∙ c.alphabet_section.ensures) in
    let r : c.from_residual-in_err-both.result ≡ Err c.in_err-both.field-0.0 = search rules in
    r ∙ strings_refused _ _ _ _ _ _ _ _ c.if-sheet-gt-MAX_BYTES.false _ a _ (sym c.in_err-both.was ∙ c.strings_after.ensures)

pub returns : goal.returns
returns c =
    let a = alphabet_known _ _ _ _ (sym c.in_ok-first.was ∙ c.alphabet_section.ensures) in
    whole _ _ _ _ _ _ _ _ c.if-sheet-gt-MAX_BYTES.false _ a _ (sym c.in_ok-both.was ∙ c.strings_after.ensures)
