-- The names of the six engines. Assumes nothing.
use Prim.Native.Nat.{◌≤◌}
use native.Mathlib.Omega.{arith}
use lib.ListN.{length}
use Rattle.engines.specs.declared.engine.Engine.{Engine}
use Rattle.engines.specs.declared.engine.Engine.TheVariants.{Brute, Kmp, Bm, Sunday, ShiftAnd, Hybrid}
use Rattle.engines.specs.Engines.{name_of}

-- no name is longer than nine bytes, with its space
pub name_short : (e : Engine) → length (name_of e) ≤ 9
name_short Brute = omega arith
name_short Kmp = omega arith
name_short Bm = omega arith
name_short Sunday = omega arith
name_short ShiftAnd = omega arith
name_short Hybrid = omega arith
