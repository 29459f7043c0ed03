-- `sheet::c::sized` meets its contract: three stores are the sizes over the list's front. Assumes nothing.
use borrow.Author.Rules.{rules}
use mathlib.Core.Path.{refl, ap, ◌∙◌}
use mathlib.Core.List.{[], ◌∷◌}
use Prim.Native.Nat.{ℕ}
use lib.ListN.{length-set}
use lib.Seq.{sets}
use Rattle.lent.proofs.OverLaws.{sets_over}
use Rattle.codes.proofs.SignedLaws.{read_back}
use Rattle.sheet.proofs.c.sized.Goals as goal

pub bounds-sizes-1 : goal.bounds-sizes-1
bounds-sizes-1 c = simp length-set (search rules)

pub returns-in-Err : goal.returns-in-Err
returns-in-Err c = rw c.in-Err.is (read_back _ c.refusal_code.type_inv ∙ c.refusal_code.ensures, refl)

pub returns-in-Ok : goal.returns-in-Ok
returns-in-Ok c =
    let z = c.args.sizes.now in
    rw c.in-Ok.is (refl, ap (λ (k : ℕ). sets z 0 (k ∷ c.in-Ok.z.m ∷ c.in-Ok.z.n ∷ [])) c.from.ensures ∙ sets_over z _)
