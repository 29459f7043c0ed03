use mathlib.Core.Path.{◌≡◌}
use mathlib.Core.List.{List}
use Prim.Native.Nat.{ℕ, ◌+◌}
use lib.ListN.{get_or}
use Rattle.letters.specs.Letters.{shared}
use Rattle.lent.proofs.TableLaws.{tabled}
use Rattle.reasons.proofs.put_shared.Given as goal

-- what is written at each place
abbrev pub each : List ℕ → List ℕ → ℕ → ℕ → ℕ
each p t i j = shared (get_or p j 0) (get_or t (i + j) 0)

abbrev pub invariant-loop-j : goal.invariant-loop-j
invariant-loop-j l = l.sets ≡ tabled (each l.p l.t l.i) l.initial.sets l.j
