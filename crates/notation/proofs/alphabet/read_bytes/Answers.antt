-- `notation::alphabet::read_bytes` meets its contract. Assumes nothing.
use Rattle.std.proofs.Common.{arith, sym}
use Rattle.notation.proofs.FreshLaws.{bytes_none, bytes_end, bytes_odd, bytes_on, bytes_all}
use Rattle.notation.proofs.alphabet.read_bytes.Goals as goal
use Rattle.notation.proofs.alphabet.read_bytes.Goals.{then-at-sheet-via-then-at-sheet, then-at-sheet-via-else-at-sheet+then-not-is_fresh}

pub loop-i-init : goal.loop-i-init
loop-i-init c = bytes_none _ _ _ c.requires

pub returns-then-at-sheet : goal.returns-then-at-sheet
returns-then-at-sheet c =
    let w = c.loop-i.invariant in
    elim c.then-at-sheet.branch [
      | then-at-sheet-via-then-at-sheet v ↦ bytes_end w c.loop-i-test.true v.if-at-sheet.true
      | then-at-sheet-via-else-at-sheet+then-not-is_fresh v ↦ bytes_odd w c.loop-i-test.true (omega (arith, w.within, v.if-at-sheet.false)) _ (sym v.is_fresh.ensures) v.if-not-is_fresh.true
    ]

pub loop-i-preserved : goal.loop-i-preserved
loop-i-preserved c = bytes_on c.loop-i.invariant c.loop-i-test.true (omega (arith, c.loop-i.invariant.within)) _ (sym c.is_fresh.ensures) c.if-not-is_fresh.false

pub returns : goal.returns
returns c = bytes_all c.loop-i.invariant c.loop-i-test.false
