-- `choices::ties::tie` meets its contract: a single letter is not looked for, and what is found is the first. Assumes nothing.
use native.Mathlib.Omega.{arith}
use mathlib.Core.Path.{sym, ◌∙◌}
use Rattle.shifts.proofs.LeastLaws.{least_le}
use Rattle.choices.specs.Candidates.{stands_at, tie_of}
use Rattle.choices.proofs.TieLaws.{earliest_is}
use Rattle.choices.proofs.ties.tie.Goals as goal

pub overflow_cast-result-2 : goal.overflow_cast-result-2
overflow_cast-result-2 c =
    let a = c.args in
    rw (c.unwrap_or.ensures, c.earliest.ensures, earliest_is a.p.now a.t.now a.i a.c a.j c.requires.0 c.requires.1) (omega (arith, c.requires.2, least_le (stands_at a.p.now a.t.now a.i a.c) 0 a.j))

pub returns : goal.returns
unfolding tie_of
returns c = rw (sym c.lone.ensures ∙ c.if-lone.false, c.unwrap_or.ensures, c.earliest.ensures) (earliest_is _ _ _ _ _ c.requires.0 c.requires.1)
