-- `notation::alphabet::Notation::read_bracket` meets its contract: what is left of the bracket is read from the members so far. Assumes nothing.
use Rattle.std.proofs.Common.{◌+◌, ◌≤◌, arith, sym, ap, ◌∙◌}
use lib.Pow.{pow_mono}
use Rattle.notation.specs.Alphabet.{wrong_at}
use Rattle.notation.proofs.BracketLaws.{follows, bracket_short, bracket_closed, bracket_few, bracket_not, bracket_on}
use Rattle.notation.proofs.alphabet.Notation.read_bracket.Goals as goal

pub returns-then-at-sheet : goal.returns-then-at-sheet
returns-then-at-sheet c = ap wrong_at c.if-at-sheet.true ∙ bracket_short c.loop-at.invariant (omega arith)

pub returns-then-count-ge2 : goal.returns-then-count-ge2
returns-then-count-ge2 c = bracket_closed c.loop-at.invariant (omega (arith, c.loop-at.invariant.within)) c.if-b-eq93.true c.if-count-ge2.true

pub returns-else-count-ge2 : goal.returns-else-count-ge2
returns-else-count-ge2 c = bracket_few c.loop-at.invariant (omega (arith, c.loop-at.invariant.within)) c.if-b-eq93.true c.if-count-ge2.false

pub returns-then-not-may_follow : goal.returns-then-not-may_follow
returns-then-not-may_follow c =
    bracket_not c.loop-at.invariant (omega (arith, c.loop-at.invariant.within)) c.if-b-eq93.false c.len-k.ensures.0 c.number-j.ensures (sym c.may_follow.ensures ∙ c.if-not-may_follow.true)

pub only-set-requires : goal.only-set-requires
only-set-requires c =
    let member = follows c.len-k.result c.loop-at.above c.loop-at.count c.number-j.result (sym c.may_follow.ensures ∙ c.if-not-may_follow.false) in
    omega (arith, c.len-k.ensures.1)

pub loop-at-preserved : goal.loop-at-preserved
loop-at-preserved c =
    bracket_on c.loop-at.invariant (omega (arith, c.loop-at.invariant.within)) c.if-b-eq93.false c.len-k.ensures.0 c.number-j.ensures (sym c.may_follow.ensures ∙ c.if-not-may_follow.false) _ c.only-set.ensures

-- 32 is the width of a letter
pub overflow_add-set : goal.overflow_add-set
overflow_add-set c =
    let on = loop-at-preserved c in
    let narrow : c.number-j.result + 1 ≤ 32 = omega (arith, on.below, c.len-k.ensures) in
    let small = pow_mono narrow in
    omega (arith, on.fits)

pub overflow_add-above : goal.overflow_add-above
overflow_add-above c = omega (arith, (loop-at-preserved c).below, c.len-k.ensures)
