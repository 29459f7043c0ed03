-- `Masked::of` meets its contract: the rows are the pattern's. Assumes nothing.
use Rattle.pattern.proofs.EntryLaws.{mask_table_lem}
use Rattle.word.proofs.masked.Masked.of.Goals as goal

pub invariant_of-result : goal.invariant_of-result
invariant_of-result c = (c.requires.0, mask_table_lem _ _ _ c.requires.1)
