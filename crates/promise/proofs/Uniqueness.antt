-- A contract of equations has one outcome: whatever meets it answers the same and leaves the same. Assumes nothing.
use mathlib.Core.Path.{◌≡◌, sym, ◌∙◌}
use Rattle.promise.specs.Promised.{Promised}

module _ {A B : Type 0} {due : A} {kept : B} {r s : A} {after later : B} where
  pub one_answer : Promised due kept r after → Promised due kept s later → r ≡ s
  one_answer p q = p.answers ∙ sym q.answers

  pub one_outcome : Promised due kept r after → Promised due kept s later → (r ≡ s) × (after ≡ later)
  one_outcome p q = (one_answer p q, p.leaves ∙ sym q.leaves)
