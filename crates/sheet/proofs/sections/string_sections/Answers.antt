-- `sheet::sections::string_sections` meets its contract: the pattern's section lies within the sheet. Assumes nothing.
use native.Mathlib.Omega.{arith}
use mathlib.Core.Path.{sym, ap, ◌∙◌}
use Rattle.sheet.specs.declared.sections.Section.{Section}
use Rattle.sheet.proofs.SectionLaws.{letter_section_found}
use Rattle.sheet.proofs.PlanLaws.{found_is}
use Rattle.sheet.proofs.sections.string_sections.Goals as goal

pub text_section-requires : goal.text_section-requires
text_section-requires c =
    let w = found_is _ _ (sym c.in_ok-first.was ∙ c.letter_section.ensures) in
    omega (arith, ap (λ (x : Section). x.next) w.2, (letter_section_found _ _ _ _ w.0 c.requires w.1).next)
