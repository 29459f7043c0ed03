-- `decimal::count::read_count` meets its contract. Assumes nothing.
use Rattle.std.proofs.Common.{sym, ap, ◌∙◌}
use Rattle.std.proofs.lemmas.List.{take_rest}
use Rattle.decimal.specs.CountLine.{count_at}
use Rattle.decimal.proofs.CountLaws.{digits_taken, count_few, count_none, count_some}
use Rattle.decimal.proofs.count.read_count.Goals as goal

pub value_of-requires-clause-digits : goal.value_of-requires-clause-digits
value_of-requires-clause-digits c = digits_taken _ _ c.count_digits-n.ensures

pub value_of-requires-clause-few : goal.value_of-requires-clause-few
value_of-requires-clause-few c = count_few _ _ (sym c.is_right.ensures ∙ c.if-not-is_right.false)

pub returns-then-not-is_right : goal.returns-then-not-is_right
returns-then-not-is_right c =
    let a = c.args in
    count_none a.from _ _ c.count_digits-n.ensures (sym c.is_right.ensures ∙ c.if-not-is_right.true) ∙ ap (count_at a.from) (take_rest a.sheet.now a.from)

pub returns : goal.returns
returns c =
    let a = c.args in
    count_some a.from _ _ c.count_digits-n.ensures (sym c.is_right.ensures ∙ c.if-not-is_right.false) _ c.value_of.ensures
    ∙ ap (count_at a.from) (take_rest a.sheet.now a.from)
