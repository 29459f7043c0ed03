-- `notation::alphabet::Notation::put_letters` meets its contract. Assumes nothing.
use Rattle.std.proofs.Common.{◌≡◌, ℕ, List, [], None, set, length, arith, refl, sym, ap, ◌∙◌}
use mathlib.Core.Path.{ap₂}
use Rattle.notation.specs.Answers.{letters_of}
use Rattle.lent.specs.Over.{over}
use Rattle.lent.proofs.OverLaws.{over_snoc, length_over}
use Rattle.notation.proofs.WalkLaws.{walk_start, walk_less, walk_on, walk_end, walk_room, walk_right}
use Rattle.notation.proofs.alphabet.Notation.put_letters.Goals as goal

pub loop-set-init : goal.loop-set-init
unfolding over
loop-set-init c = record { past = []; walked = walk_start _ _ _ _ c.requires.within; lists = refl }

pub bounds-list-i : goal.bounds-list-i
bounds-list-i c =
    let w = c.loop-set.invariant in
    omega (arith, walk_room w.walked c.requires.room c.in-Ok-Some-default.ensures c.in-Ok-Some-default.field-0-0-is, ap length w.lists, length_over w.past c.args.list.now)

pub loop-set-smaller : goal.loop-set-smaller
loop-set-smaller c = omega (arith, walk_less c.loop-set.invariant.walked c.in-Ok-Some-default.ensures)

pub loop-set-preserved : goal.loop-set-preserved
loop-set-preserved c =
    let w = c.loop-set.invariant in
    let x = c.in-Ok-Some-default.set in
    record {
      past = _;
      walked = walk_on w.walked c.in-Ok-Some-default.ensures c.in-Ok-Some-default.field-0-0-is;
      lists = ap₂ (λ (xs : List ℕ) (n : ℕ). set xs n x) w.lists w.walked.many ∙ sym (over_snoc w.past x c.args.list.now);
    }

pub returns-in_default : goal.returns-in_default
returns-in_default c =
    let w = c.loop-set.invariant in
    let ended : c.in_default.field-0.0 ≡ None = cc in
    w.lists ∙ ap (λ (xs : List ℕ). over xs c.args.list.now) (sym (ap letters_of (walk_end w.walked (sym c.in_default.is ∙ c.read_one.ensures) ended)))

pub returns-in_default-2 : goal.returns-in_default-2
returns-in_default-2 c = absurd (walk_right c.loop-set.invariant.walked c.requires.room (sym c.in_default.is ∙ c.read_one.ensures))
