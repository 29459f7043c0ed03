-- `writer::bytes::sheet_len` meets its contract: each sum is a part of the sheet's length, which is a number. Assumes nothing.
use native.Mathlib.Omega.{arith}
use Rattle.writer.proofs.SheetLaws.{sheet_length}
use Rattle.writer.proofs.bytes.sheet_len.Goals as goal

pub overflow_add-a : goal.overflow_add-a
overflow_add-a c = omega (arith, sheet_length c.args.alphabet.now c.args.pattern.now c.args.text.now, c.requires.1, c.len.ensures)

pub overflow_add-a-2 : goal.overflow_add-a-2
overflow_add-a-2 c = omega (arith, sheet_length c.args.alphabet.now c.args.pattern.now c.args.text.now, c.requires.1, c.len.ensures)

pub overflow_add-a-3 : goal.overflow_add-a-3
overflow_add-a-3 c = omega (arith, sheet_length c.args.alphabet.now c.args.pattern.now c.args.text.now, c.requires.1, c.len.ensures)

pub overflow_add-p : goal.overflow_add-p
overflow_add-p c = omega (arith, sheet_length c.args.alphabet.now c.args.pattern.now c.args.text.now, c.requires.1, c.len-2.ensures)

pub line_len-requires : goal.line_len-requires
line_len-requires c =
    let p = c.requires in
    (p.0.few, p.0.pattern, omega (arith, sheet_length c.args.alphabet.now c.args.pattern.now c.args.text.now, p.1))

pub overflow_add-p-2 : goal.overflow_add-p-2
overflow_add-p-2 c = omega (arith, sheet_length c.args.alphabet.now c.args.pattern.now c.args.text.now, c.requires.1, c.len-2.ensures, c.line_len.ensures)

pub overflow_add-t : goal.overflow_add-t
overflow_add-t c = omega (arith, sheet_length c.args.alphabet.now c.args.pattern.now c.args.text.now, c.requires.1, c.len-3.ensures)

pub line_len-requires-2 : goal.line_len-requires-2
line_len-requires-2 c =
    let p = c.requires in
    (p.0.few, p.0.text, omega (arith, sheet_length c.args.alphabet.now c.args.pattern.now c.args.text.now, p.1))

pub overflow_add-t-2 : goal.overflow_add-t-2
overflow_add-t-2 c = omega (arith, sheet_length c.args.alphabet.now c.args.pattern.now c.args.text.now, c.requires.1, c.len-3.ensures, c.line_len-2.ensures)

pub overflow_add-result : goal.overflow_add-result
overflow_add-result c = omega (arith, sheet_length c.args.alphabet.now c.args.pattern.now c.args.text.now, c.requires.1, c.len.ensures, c.len-2.ensures, c.line_len.ensures, c.len-3.ensures, c.line_len-2.ensures)

pub overflow_add-result-2 : goal.overflow_add-result-2
overflow_add-result-2 c = omega (arith, sheet_length c.args.alphabet.now c.args.pattern.now c.args.text.now, c.requires.1, c.len.ensures, c.len-2.ensures, c.line_len.ensures, c.len-3.ensures, c.line_len-2.ensures)

pub returns : goal.returns
returns c = omega (arith, sheet_length c.args.alphabet.now c.args.pattern.now c.args.text.now, c.len.ensures, c.len-2.ensures, c.line_len.ensures, c.len-3.ensures, c.line_len-2.ensures)
