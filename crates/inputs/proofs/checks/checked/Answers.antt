-- `inputs::checks::checked` meets its contract: the tests that led to a return say which case of `verdict` holds. Assumes nothing.
use mathlib.Core.Path.{sym, ap, ◌∙◌}
use Rattle.std.specs.Prelude.{Err}
use borrow.Author.Tests.{lt-ltb}
use Rattle.letters.proofs.SizeLaws.{inside_most}
use Rattle.inputs.specs.Refusals.{verdict, refuse}
use Rattle.inputs.proofs.CheckLaws.{past_sizes}
use Rattle.inputs.proofs.checks.checked.Goals as goal

pub returns-then-is_outside : goal.returns-then-is_outside
unfolding verdict refuse
returns-then-is_outside c = ap Err c.at.ensures ∙ sym (simp (sym c.is_outside.ensures ∙ c.if-is_outside.true))

pub returns-then-is_outside-2 : goal.returns-then-is_outside-2
unfolding verdict refuse
returns-then-is_outside-2 c = ap Err c.at-then-is_outside-2.ensures ∙ sym (simp (sym c.is_outside.ensures ∙ c.if-is_outside.false, sym c.is_outside-2.ensures ∙ c.if-is_outside-2.true))

pub returns-then-t-gt-MAX_N : goal.returns-then-t-gt-MAX_N
unfolding verdict refuse
returns-then-t-gt-MAX_N c = ap Err c.at-then-t-gt-MAX_N.ensures
    ∙ sym (simp (sym c.is_outside.ensures ∙ c.if-is_outside.false, sym c.is_outside-2.ensures ∙ c.if-is_outside-2.false, lt-ltb _ _ c.if-t-gt-MAX_N.true))

pub any_bad-requires : goal.any_bad-requires
any_bad-requires c = inside_most 1 _ _ (sym c.is_outside.ensures ∙ c.if-is_outside.false)

pub first_bad-requires : goal.first_bad-requires
first_bad-requires c = (inside_most 1 _ _ (sym c.is_outside.ensures ∙ c.if-is_outside.false))

pub returns-then-any_bad : goal.returns-then-any_bad
unfolding refuse
returns-then-any_bad c = ap Err c.at-then-any_bad.ensures ∙ sym (past_sizes _ _ _ _ _ _ (sym c.is_outside.ensures ∙ c.if-is_outside.false) (sym c.is_outside-2.ensures ∙ c.if-is_outside-2.false) c.if-t-gt-MAX_N.false ∙ simp (sym c.any_bad.ensures ∙ c.if-any_bad.true, ← c.first_bad.ensures))

pub any_bad-requires-2 : goal.any_bad-requires-2
any_bad-requires-2 c = (inside_most 1 _ _ (sym c.is_outside.ensures ∙ c.if-is_outside.false))

pub first_bad-requires-then-any_bad-2 : goal.first_bad-requires-then-any_bad-2
first_bad-requires-then-any_bad-2 c = (inside_most 1 _ _ (sym c.is_outside.ensures ∙ c.if-is_outside.false))

pub returns-then-any_bad-2 : goal.returns-then-any_bad-2
unfolding refuse
returns-then-any_bad-2 c = ap Err c.at-then-any_bad-2.ensures
    ∙ sym
    (past_sizes _ _ _ _ _ _ (sym c.is_outside.ensures ∙ c.if-is_outside.false) (sym c.is_outside-2.ensures ∙ c.if-is_outside-2.false) c.if-t-gt-MAX_N.false
    ∙ simp (sym c.any_bad.ensures ∙ c.if-any_bad.false, sym c.any_bad-2.ensures ∙ c.if-any_bad-2.true, ← c.first_bad-then-any_bad-2.ensures))

pub returns : goal.returns
unfolding refuse
returns c = sym (past_sizes _ _ _ _ _ _ (sym c.is_outside.ensures ∙ c.if-is_outside.false) (sym c.is_outside-2.ensures ∙ c.if-is_outside-2.false) c.if-t-gt-MAX_N.false ∙ simp (sym c.any_bad.ensures ∙ c.if-any_bad.false, sym c.any_bad-2.ensures ∙ c.if-any_bad-2.false))
