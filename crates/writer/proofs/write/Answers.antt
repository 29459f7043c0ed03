-- `writer::write` meets its contract: what the checks say picks the case. Assumes nothing.
use mathlib.Core.Path.{◌≡◌, refl, sym, ap, ◌∙◌}
use native.Mathlib.Omega.{arith}
use borrow.Author.Rules.{rules}
use Rattle.std.specs.Prelude.{Ok}
use Rattle.writer.specs.Writer.{writing}
use Rattle.writer.proofs.CheckLaws.{checked_spellable, checked_small, sizes_passed}
use Rattle.writer.proofs.write.Goals as goal

pub returns-in_err-check : goal.returns-in_err-check
unfolding writing
returns-in_err-check c = rw (sym c.check.ensures ∙ c.in_err-check.was) (record { promise = record { answers = search rules; leaves = refl } })

pub sheet_len-len-requires : goal.sheet_len-len-requires
sheet_len-len-requires c =
    let e = sym c.check.ensures ∙ c.in_ok-check.was in
    let l = checked_small _ _ _ _ _ _ _ e (omega arith) (omega arith) (omega arith) in
    (checked_spellable _ _ _ _ _ _ _ e (omega arith), omega arith)

pub returns-in_err-fits : goal.returns-in_err-fits
unfolding writing
returns-in_err-fits c =
    rw (sym c.check.ensures ∙ c.in_ok-check.was, ← c.sheet_len-len.ensures, sym c.fits.ensures ∙ c.in_err-fits.was)
    (record { promise = record { answers = search rules; leaves = refl } })

pub put_sheet-requires : goal.put_sheet-requires
put_sheet-requires c =
    let z = sizes_passed _ _ _ (sym c.fits.ensures ∙ c.in_ok-fits.was) in
    (checked_spellable _ _ _ _ _ _ _ (sym c.check.ensures ∙ c.in_ok-check.was) (omega arith), omega (arith, z.1, c.sheet_len-len.ensures))

pub returns : goal.returns
unfolding writing
returns c =
    rw (sym c.check.ensures ∙ c.in_ok-check.was, ← c.sheet_len-len.ensures, sym c.fits.ensures ∙ c.in_ok-fits.was)
    (record { promise = record { answers = ap Ok c.sheet_len-len.ensures; leaves = c.put_sheet.ensures } })
