-- `Masks::of` meets its contract: the rows are right for the letters passed. Assumes nothing.
use Rattle.std.proofs.Common.{◌^◌, bit_or, arith}
use Rattle.pattern.specs.Tables.{mask_table}
use Rattle.pattern.proofs.EntryLaws.{mask_start, mask_grows}
use Rattle.pattern.proofs.GrowLaws.{grown_start, grown_on, grown_end}
use Rattle.pattern.proofs.PowerLaws.{place_word}
use Rattle.pattern.proofs.masks.Masks.of.Goals as goal

pub loop-j-init : goal.loop-j-init
loop-j-init c = grown_start _ _ (λ b. mask_start _ b)

pub loop-j-preserved : goal.loop-j-preserved
loop-j-preserved c =
    let e = place_word c.requires c.loop-j.j (omega arith) (omega arith) in
    grown_on c.loop-j.invariant (λ x. bit_or x (2 ^ c.loop-j.j)) _ _ (mask_grows _ c.loop-j.j) (rw (← e) c.mark.ensures)

pub returns : goal.returns
unfolding mask_table
returns c = grown_end c.loop-j.invariant _ (omega arith)
