-- `decimal::put` meets its contract. Assumes nothing.
use Prim.Native.Nat.{◌+◌, ◌/◌, ◌%◌, ℕ}
use mathlib.Core.Path.{sym, ap, ◌∙◌}
use mathlib.Core.List.{[], ◌∷◌}
use native.Mathlib.Omega.{arith}
use lib.ListN.{length, set}
use lib.Seq.{sets}
use Rattle.decimal.specs.Decimal.{decimal}
use Rattle.decimal.proofs.DecimalLaws.{decimal_one, decimal_more, decimal_length}
use Rattle.lent.proofs.StoreLaws.{sets_on}
use Rattle.decimal.proofs.+put.Goals as goal

pub bounds-out-at : goal.bounds-out-at
bounds-out-at t c = omega (arith, ap length (decimal_one c.args.n c.if-n-lt10.true), c.requires)

pub overflow_add-result : goal.overflow_add-result
overflow_add-result t c = omega (arith, ap length (decimal_one c.args.n c.if-n-lt10.true), c.requires, c.well_formed)

pub returns-then-n-lt10 : goal.returns-then-n-lt10
returns-then-n-lt10 t c =
    let one = decimal_one c.args.n c.if-n-lt10.true in
    let o = c.args.out.now in
    let at = c.args.at in (
      omega (arith, ap length one),
      ap (λ (b : ℕ). set o at b) c.low_digit.ensures ∙ ap (sets o at) (sym one),
    )

pub put-e-requires : goal.put-e-requires
put-e-requires t c =
    let len = decimal_length c.args.n c.if-n-lt10.false c.ranges.n.fits in
    (omega arith, omega (arith, c.requires))

pub bounds-out-e : goal.bounds-out-e
bounds-out-e t c =
    let len = decimal_length c.args.n c.if-n-lt10.false c.ranges.n.fits in
    omega (arith, c.put-e.ensures.0, c.put-e.auto, c.requires)

pub overflow_add-result-2 : goal.overflow_add-result-2
overflow_add-result-2 t c =
    let len = decimal_length c.args.n c.if-n-lt10.false c.ranges.n.fits in
    omega (arith, c.put-e.ensures.0, c.requires, c.well_formed)

pub returns : goal.returns
returns t c =
    let n = c.args.n in
    let f = c.ranges.n.fits in
    let more = decimal_more n c.if-n-lt10.false f in
    let len = decimal_length n c.if-n-lt10.false f in
    let o = c.args.out.now in
    let at = c.args.at in (
      omega (arith, c.put-e.ensures.0),
      sets_on o _ _ at c.put-e.result (decimal (n / 10)) ((48 + n % 10) ∷ []) c.put-e.ensures.1 c.put-e.ensures.0 (ap (λ (b : ℕ). set c.put-e.new.out c.put-e.result b) c.low_digit-2.ensures)
          ∙ ap (sets o at) (sym more),
    )
