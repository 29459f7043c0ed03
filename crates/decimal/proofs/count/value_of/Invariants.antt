use Rattle.std.proofs.Common.{◌≡◌, ◌^◌, ◌<◌, take}
use Rattle.decimal.specs.Decimal.{value}
use Rattle.decimal.proofs.count.value_of.Given as goal

abbrev pub invariant-loop-b : goal.invariant-loop-b
invariant-loop-b l = record { read : l.v ≡ value 0 (take l.b-index l.digits); small : l.v < 10 ^ l.b-index }
