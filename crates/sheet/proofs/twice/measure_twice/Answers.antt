-- `sheet::twice::measure_twice` meets its contract, by that of `measure` alone. Assumes nothing.
use Rattle.promise.proofs.Uniqueness.{one_answer}
use Rattle.sheet.proofs.twice.measure_twice.Goals as goal

pub returns : goal.returns
returns c = one_answer c.measure-first.ensures.promise c.measure-second.ensures.promise
