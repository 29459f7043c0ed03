-- `codes::length_code` meets its contract: a small number is itself. Assumes nothing.
use native.Mathlib.Omega.{arith}
use mir.Syntax.{w64}
use mir.ValLaws.{to_z_pos}
use Rattle.codes.proofs.length_code.Goals as goal

pub returns : goal.returns
returns c = to_z_pos w64 c.args.n (omega arith)
