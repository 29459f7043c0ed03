-- `products::c::meet_called` meets its contract. Assumes nothing.
use mathlib.Core.Path.{◌∙◌}
use Rattle.codes.proofs.SignedLaws.{read_back}
use Rattle.products.specs.Meetings.{pair_verdict, products_meet}
use Rattle.products.proofs.MeetingLaws.{meet_told}
use Rattle.products.proofs.c.meet_called.Goals as goal

pub returns-in-Err : goal.returns-in-Err
returns-in-Err c = meet_told (pair_verdict _ _ _ _ _) (products_meet _ _) _ _ c.products_meet.ensures (rw c.in-Err.is (read_back _ c.refusal_code.type_inv ∙ c.refusal_code.ensures))
