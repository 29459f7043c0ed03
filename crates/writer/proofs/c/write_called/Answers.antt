-- `writer::c::write_called` meets its contract: a shell over one call. Assumes nothing.
use mathlib.Core.Path.{◌∙◌}
use native.Mathlib.Omega.{arith}
use Rattle.codes.proofs.SignedLaws.{read_back}
use Rattle.codes.proofs.CodeLaws.{written_called, wrote_most}
use Rattle.sheet.specs.Bytes.{sheet_bytes}
use Rattle.writer.specs.Writer.{writing}
use Rattle.writer.proofs.CheckLaws.{writing_fits}
use Rattle.writer.proofs.c.write_called.Goals as goal

pub written_code-requires : goal.written_code-requires
written_code-requires c =
    let l = wrote_most _ _ _ _ _ c.write.ensures.promise _ (writing_fits _ _ _ _ _ _ _ _ _) in
    omega arith

pub returns : goal.returns
returns c =
    let a = c.args in
    written_called (writing _ _ _ _ _ _ _ _ _) (sheet_bytes a.alphabet.now a.pattern.now a.text.now) a.sheet.now _ _ c.write.ensures.promise _
    (read_back _ c.written_code.type_inv ∙ c.written_code.ensures)
