-- `codes::search::told` meets its contract: three stores are the counts over the list's front. Assumes nothing.
use borrow.Author.Rules.{rules}
use mathlib.Core.Path.{refl, ◌∙◌}
use lib.ListN.{length-set}
use Rattle.codes.proofs.SignedLaws.{read_back}
use Rattle.codes.proofs.CallLaws.{three_over}
use Rattle.codes.proofs.search.told.Goals as goal

pub bounds-work-1 : goal.bounds-work-1
bounds-work-1 c = simp length-set (search rules)

pub length_code-requires : goal.length_code-requires
length_code-requires c = rw c.in-Ok.is at c.requires.0

pub returns-in-Err : goal.returns-in-Err
returns-in-Err c = rw c.in-Err.is (read_back _ c.refusal_code.type_inv ∙ c.refusal_code.ensures, refl)

pub returns-in-Ok : goal.returns-in-Ok
returns-in-Ok c = rw c.in-Ok.is (read_back _ c.length_code.type_inv ∙ c.length_code.ensures, three_over _ _ _ c.args.work.now c.requires.1)
