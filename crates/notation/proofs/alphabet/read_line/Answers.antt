-- `notation::alphabet::read_line` meets its contract: the bytes are read, and the byte after them decides. Assumes nothing.
use Rattle.std.proofs.Common.{◌≤◌, length, arith}
use Rattle.std.proofs.lemmas.Result.{err_from_is_err_and}
use Rattle.notation.proofs.FreshLaws.{line_wrong, line_within, line_short, line_ended, line_unended}
use Rattle.notation.proofs.alphabet.read_line.Goals as goal
use Rattle.notation.proofs.alphabet.read_line.Goals.{then-end-sheet-via-then-end-sheet, then-end-sheet-via-else-end-sheet+then-sheet-end-ne10}

pub returns-in_err-end : goal.returns-in_err-end
returns-in_err-end c =
    let p = err_from_is_err_and c.from_residual.result c.from_residual.ensures.1 in
    rw (p.1, p.2) (line_wrong _ _ _ _ c.in_err-end.ensures)

pub bounds-sheet-end : goal.bounds-sheet-end
bounds-sheet-end c = omega (arith, line_within _ _ _ _ c.requires c.in_ok-end.ensures)

pub returns-then-end-sheet : goal.returns-then-end-sheet
returns-then-end-sheet c =
    let within : c.in_ok-end.end ≤ length c.args.sheet.now = line_within _ _ _ _ c.requires c.in_ok-end.ensures in
    elim c.then-end-sheet.branch [
      | then-end-sheet-via-then-end-sheet v ↦ line_short _ _ _ _ c.requires c.in_ok-end.ensures v.if-end-sheet.true
      | then-end-sheet-via-else-end-sheet+then-sheet-end-ne10 v ↦ line_unended _ _ _ _ c.requires c.in_ok-end.ensures (omega (arith, v.if-end-sheet.false)) v.if-sheet-end-ne10.true
    ]

pub returns : goal.returns
returns c = line_ended _ _ _ _ c.requires c.in_ok-end.ensures (omega (arith, line_within _ _ _ _ c.requires c.in_ok-end.ensures)) c.if-sheet-end-ne10.false
