-- The contract of a public call: what it answers and what it leaves in lent memory, each as an equation.
use Rattle.std.specs.Prelude.{◌≡◌}

-- r is the answer that is due, and `after` what lent memory is to hold afterwards
pub record Promised {A B : Type 0} (due : A) (kept : B) (r : A) (after : B) : Type 0 where
  pub answers : r ≡ due
  pub leaves : after ≡ kept
