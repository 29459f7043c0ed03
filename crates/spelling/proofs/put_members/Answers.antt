-- `spelling::put_members` meets its contract: the members from the letter b on are left to write. Assumes nothing.
use Rattle.std.proofs.Common.{[], ◌∷◌, get_or, length, arith, sym, ap, ◌∙◌}
use Rattle.letters.specs.Letters.{member}
use Rattle.lent.proofs.StoreLaws.{so_none, so_same, so_room, so_on, so_end}
use Rattle.spelling.proofs.LineLaws.{rest_all, rest_none, rest_has, rest_not}
use Rattle.spelling.proofs.put_members.Goals as goal
use Rattle.spelling.proofs.put_members.Goals.{else-has, then-has}

pub loop-b-init : goal.loop-b-init
loop-b-init c = let a = c.args in so_same _ _ _ _ _ _ (so_none _ _ _) _ (sym (rest_all a.alphabet.now a.c))

pub bounds-out-e : goal.bounds-out-e
bounds-out-e c =
    let told = c.has.ensures ∙ ap (member _) c.from.ensures in
    let has = rest_has _ _ _ c.loop-b-test.true (sym c.if-has.true ∙ told) in
    omega (arith, so_room _ _ _ _ _ _ c.loop-b.invariant c.requires.1, ap length has)

pub loop-b-preserved : goal.loop-b-preserved
loop-b-preserved c =
    let told = c.has.ensures ∙ ap (member _) c.from.ensures in
    elim c.if-has.branch [
      | then-has u ↦ so_on _ _ _ _ _ _ c.loop-b.invariant (get_or c.args.alphabet.now c.loop-b.b 0 ∷ []) _ _ _ (rest_has _ _ _ c.loop-b-test.true (sym u.if-has.true ∙ told)) u.out-is u.e-is
      | else-has u ↦ so_on _ _ _ _ _ _ c.loop-b.invariant [] _ _ _ (rest_not _ _ _ c.loop-b-test.true (sym u.if-has.false ∙ told)) u.out-is (omega (arith, u.e-is))
    ]

pub returns : goal.returns
returns c =
    let a = c.args in
    so_end _ _ _ _ _ _ (rest_none a.alphabet.now a.c c.loop-b.b c.loop-b-test.false) c.loop-b.invariant
