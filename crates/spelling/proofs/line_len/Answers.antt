-- `spelling::line_len` meets its contract: what is counted and what is left make up the line. Assumes nothing.
use Rattle.std.proofs.Common.{◌+◌, length, drop, arith, ap}
use Rattle.spelling.proofs.LineLaws.{line_at_end, line_some, line_step}
use Rattle.spelling.proofs.line_len.Goals as goal

pub overflow_add-n : goal.overflow_add-n
overflow_add-n c =
    let a = c.args in
    omega (arith, line_step a.alphabet.now a.letters.now c.loop-c.c-index c.loop-c-test.true, line_some a.alphabet.now (drop (c.loop-c.c-index + 1) a.letters.now))

pub loop-c-preserved : goal.loop-c-preserved
loop-c-preserved c =
    let a = c.args in
    omega (arith, line_step a.alphabet.now a.letters.now c.loop-c.c-index c.loop-c-test.true)

pub returns : goal.returns
returns c =
    let a = c.args in
    omega (arith, ap length (line_at_end a.alphabet.now a.letters.now c.loop-c.c-index (omega arith)))
