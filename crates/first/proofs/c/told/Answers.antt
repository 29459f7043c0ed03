-- `first::c::told` meets its contract: two stores, or one, are the numbers over the list's front. Assumes nothing.
use mathlib.Core.Path.{refl, ◌∙◌}
use mathlib.Core.List.{[], ◌∷◌}
use Rattle.codes.proofs.SignedLaws.{read_back}
use Rattle.lent.proofs.OverLaws.{sets_over}
use Rattle.first.proofs.c.told.Goals as goal

pub returns-in-Err : goal.returns-in-Err
returns-in-Err c = rw c.in-Err.is (read_back _ c.refusal_code.type_inv ∙ c.refusal_code.ensures, refl)

pub returns-in-None : goal.returns-in-None
returns-in-None c = rw (c.in-Ok.is, c.in-None.is) (refl, sets_over _ (_ ∷ []))

pub returns-in-Some : goal.returns-in-Some
returns-in-Some c = rw (c.in-Ok.is, c.in-Some.is) (refl, sets_over _ (_ ∷ _ ∷ []))
