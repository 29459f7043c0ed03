-- `notation::alphabet::is_fresh` meets its contract. Assumes nothing.
use Rattle.std.proofs.Common.{◌≡◌, true, false, not, sym, ap, ◌∙◌}
use Rattle.notation.specs.Alphabet.{plain, fresh}
use Rattle.notation.proofs.FindLaws.{any_some}
use Rattle.notation.proofs.alphabet.is_fresh.Goals as goal

pub returns-then-is_plain : goal.returns-then-is_plain
unfolding fresh
returns-then-is_plain c =
    let good : plain c.args.b ≡ true = sym c.is_plain.ensures ∙ c.if-is_plain.true in
    rw good (ap not (c.contains.ensures.value ∙ any_some c.args.b c.args.before.now))

pub returns-else-is_plain : goal.returns-else-is_plain
unfolding fresh
returns-else-is_plain c =
    let bad : plain c.args.b ≡ false = sym c.is_plain.ensures ∙ c.if-is_plain.false in
    rw bad c.if-is_plain.false
