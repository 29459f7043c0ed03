-- `spelling::put_line` meets its contract: after some letters the line from there on is left to write. Assumes nothing.
use Rattle.std.proofs.Common.{[], ◌∷◌, get_or, arith}
use Rattle.lent.proofs.StoreLaws.{so_same, so_front, so_next, so_back, so_last}
use Rattle.notation.specs.Spelling.{spell}
use Rattle.spelling.proofs.LineLaws.{line_at, line_at_end}
use Rattle.spelling.proofs.put_line.Goals as goal

pub put_letter-e-requires : goal.put_letter-e-requires
put_letter-e-requires c =
    let a = c.args in
    let i = c.loop-i.i in
    let next = so_same _ _ _ _ _ _ c.loop-i.invariant _ (line_at a.alphabet.now a.letters.now i c.loop-i-test.true) in
    (c.requires.0, c.requires.1 i c.loop-i-test.true, so_front (spell a.alphabet.now (get_or a.letters.now i 0)) _ next c.requires.2)

pub loop-i-preserved : goal.loop-i-preserved
loop-i-preserved c =
    let a = c.args in
    let i = c.loop-i.i in
    let next = so_same _ _ _ _ _ _ c.loop-i.invariant _ (line_at a.alphabet.now a.letters.now i c.loop-i-test.true) in
    so_next (spell a.alphabet.now (get_or a.letters.now i 0)) _ next c.put_letter-e.ensures.1 c.put_letter-e.ensures.0

pub put_byte-requires : goal.put_byte-requires
put_byte-requires c =
    let a = c.args in
    let ended = so_same _ _ _ _ _ _ c.loop-i.invariant _ (line_at_end a.alphabet.now a.letters.now c.loop-i.i (omega arith)) in
    let h = so_back (10 ∷ []) ended c.requires.2 in
    omega arith

pub returns : goal.returns
returns c =
    let a = c.args in
    let ended = so_same _ _ _ _ _ _ c.loop-i.invariant _ (line_at_end a.alphabet.now a.letters.now c.loop-i.i (omega arith)) in
    so_last (10 ∷ []) ended c.put_byte.ensures.1 c.put_byte.ensures.0
