-- `bound::choice::put_lowest` meets its contract: the list is written letter by letter. Assumes nothing.
use native.Mathlib.Omega.{arith}
use mathlib.Core.Logic.{⊎_elim}
use native.Mathlib.Nat.{eq-zero-or-pos}
use Rattle.bound.proofs.choice.put_lowest.Goals as goal

pub low_member-requires : goal.low_member-requires
low_member-requires c = ⊎_elim (λ z. absurd (c.requires.1 c.loop-j.j (omega arith) z)) (λ p. p) (eq-zero-or-pos _)
