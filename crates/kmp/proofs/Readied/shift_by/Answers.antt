-- `Readied::shift_by` of KMP meets its contract: the shift is tried where a letter is unsure, else it is the pattern's own. Assumes nothing.
use mathlib.Core.Path.{sym, ◌∙◌}
use Rattle.kmp.proofs.CarryLaws.{tried, own}
use Rattle.kmp.proofs.Readied.shift_by.Goals as goal

pub returns-then-is_unsure : goal.returns-then-is_unsure
returns-then-is_unsure c =
    let q = c.requires in
    tried q.0 c.args.self.now.ready q.1 _ _ (sym c.is_unsure.ensures ∙ c.if-is_unsure.true) c.try_shifts.ensures.0 c.try_shifts.ensures.1

pub returns : goal.returns
returns c =
    let q = c.requires in
    own q.0 c.args.self.now.ready q.1 (sym c.is_unsure.ensures ∙ c.if-is_unsure.false)
