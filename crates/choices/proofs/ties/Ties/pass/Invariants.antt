use mathlib.Core.Path.{◌≡◌}
use Rattle.choices.specs.Candidates.{passed, stirred}
use Rattle.choices.proofs.ties.Ties.pass.Given as goal

abbrev pub invariant-loop-j : goal.invariant-loop-j
invariant-loop-j l = (l.changed ≡ stirred l.self.above l.self.under l.j l.initial.own) × (l.own ≡ passed l.self.above l.self.under l.j l.initial.own)
