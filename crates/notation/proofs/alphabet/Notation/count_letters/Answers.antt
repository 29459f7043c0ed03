-- `notation::alphabet::Notation::count_letters` meets its contract. Assumes nothing.
use Rattle.std.proofs.Common.{ℕ, Ok, arith, sym, ap, ◌∙◌}
use Rattle.std.proofs.lemmas.Result.{err_from_is_err_and}
use Rattle.notation.specs.Answers.{counted_of}
use Rattle.notation.proofs.WalkLaws.{walk_less, walk_on, walk_end, walk_wrong}
use Rattle.notation.proofs.alphabet.Notation.count_letters.Goals as goal

pub returns-in_err-next : goal.returns-in_err-next
returns-in_err-next c =
    let p = err_from_is_err_and c.from_residual.result c.from_residual.ensures.1 in
    rw (p.1, p.2) (sym (ap counted_of (walk_wrong c.loop-next.invariant.1 c.in_err-next.ensures)))

pub loop-next-smaller : goal.loop-next-smaller
loop-next-smaller c = omega (arith, walk_less c.loop-next.invariant.1 c.in_ok-next.ensures)

pub loop-next-preserved : goal.loop-next-preserved
loop-next-preserved c = (_, walk_on c.loop-next.invariant.1 c.in_ok-next.ensures c.in-Some-default.is-0)

pub returns-in-None-default : goal.returns-in-None-default
returns-in-None-default c =
    let w = c.loop-next.invariant.1 in
    ap (λ (n : ℕ). Ok (n, c.in_ok-next.field-0.1)) w.many ∙ sym (ap counted_of (walk_end w c.in_ok-next.ensures c.in-None-default.is-0))
