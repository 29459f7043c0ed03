-- `sheet::sections::letter_section` meets its contract: the count line lies within the sheet. Assumes nothing.
use mathlib.Core.Path.{sym}
use Rattle.decimal.proofs.CountLaws.{count_within}
use Rattle.sheet.proofs.sections.letter_section.Goals as goal

pub letter_line-requires : goal.letter_line-requires
letter_line-requires c = count_within _ _ _ _ c.requires (sym c.in-Some.ensures)
