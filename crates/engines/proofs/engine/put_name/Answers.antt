-- `engines::engine::put_name` meets its contract: the space stands where the name ends. Assumes nothing.
use mathlib.Core.List.{[], ◌∷◌}
use native.Mathlib.Omega.{arith}
use lib.ListN.{length-append}
use Rattle.lent.proofs.StoreLaws.{sets_on}
use Rattle.engines.proofs.engine.put_name.Goals as goal

pub returns : goal.returns
returns c =
    let a = c.args in
    rw (← c.name.ensures) (
      omega (arith, length-append c.name.result.now (32 ∷ [])),
      sets_on a.out.now c.put_bytes-end.new.out c.put_byte.new.out a.at c.put_bytes-end.result c.name.result.now (32 ∷ [])
          (rw (← c.as_bytes.ensures.value) c.put_bytes-end.ensures.1)
          (rw (← c.as_bytes.ensures.value) c.put_bytes-end.ensures.0)
          c.put_byte.ensures.1,
    )
