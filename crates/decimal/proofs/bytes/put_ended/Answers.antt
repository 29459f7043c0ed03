-- `decimal::bytes::put_ended` meets its contract. Assumes nothing.
use mathlib.Core.Path.{refl}
use mathlib.Core.List.{[], ◌∷◌}
use native.Mathlib.Omega.{arith}
use Rattle.lent.proofs.StoreLaws.{sets_on}
use Rattle.decimal.specs.Decimal.{decimal, ended}
use Rattle.decimal.proofs.DecimalLaws.{ended_length}
use Rattle.decimal.proofs.bytes.put_ended.Goals as goal

pub put-e-requires : goal.put-e-requires
put-e-requires c = omega (arith, c.requires, ended_length c.args.n c.args.after)

pub bounds-out-e : goal.bounds-out-e
bounds-out-e c = omega (arith, c.requires, ended_length c.args.n c.args.after, c.put-e.ensures.0, c.put-e.auto)

pub overflow_add-result : goal.overflow_add-result
overflow_add-result c = omega (arith, c.requires, ended_length c.args.n c.args.after, c.put-e.ensures.0, c.well_formed)

pub returns : goal.returns
unfolding ended
returns c = (
  omega (arith, ended_length c.args.n c.args.after, c.put-e.ensures.0),
  sets_on c.args.out.now _ _ c.args.at c.put-e.result (decimal c.args.n) (c.args.after ∷ []) c.put-e.ensures.1 c.put-e.ensures.0 refl,
)
