-- `decimal::count::value_of` meets its contract: the loop holds the value of the digits before it. Assumes nothing.
use Rattle.std.proofs.Common.{◌+◌, ◌-◌, ◌*◌, ◌≡◌, get_or, take, add-one, arith, ap, ◌∙◌, refl}
use native.Mathlib.Nat.{pow-suc}
use Rattle.std.proofs.lemmas.List.{take_more}
use Rattle.decimal.specs.Decimal.{value}
use Rattle.decimal.proofs.DecimalLaws.{digit_range, value_snoc}
use Rattle.decimal.proofs.count.value_of.Goals as goal

pub loop-b-init : goal.loop-b-init
unfolding value
loop-b-init c = record { read = refl; small = omega arith }

pub loop-b-preserved : goal.loop-b-preserved
loop-b-preserved c =
    let s = c.args.digits.now in
    let i = c.loop-b.b-index in
    let more : value 0 (take (i + 1) s) ≡ value 0 (take i s) * 10 + (get_or s i 0 - 48) = ap (value 0) (take_more s i 0 c.loop-b-test.true) ∙ value_snoc 0 (take i s) (get_or s i 0) in
    let digit = digit_range (get_or s i 0) (c.requires.digits i c.loop-b-test.true) in
    record { read = omega arith; small = rw (add-one i) (omega (arith, pow-suc 10 i)) }
