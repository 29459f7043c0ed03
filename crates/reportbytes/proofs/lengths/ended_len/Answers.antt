-- `reportbytes::lengths::ended_len` meets its contract. Assumes nothing.
use native.Mathlib.Omega.{arith}
use Rattle.decimal.proofs.DecimalLaws.{ended_length, ended_fits}
use Rattle.reportbytes.proofs.lengths.ended_len.Goals as goal

pub overflow_add-result : goal.overflow_add-result
overflow_add-result c =
    let n = c.args.n in
    omega (arith, c.len.ensures, ended_length n 10, ended_fits n 10 c.ranges.n.fits)

pub returns : goal.returns
returns c =
    let n = c.args.n in
    let f = ended_fits n 10 c.ranges.n.fits in
    (omega (arith, c.len.ensures, ended_length n 10), omega (arith, c.len.ensures, ended_length n 32), omega (arith, c.len.ensures, ended_length n 10, f))
