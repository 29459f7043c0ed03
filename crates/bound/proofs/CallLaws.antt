-- What the two calls of the bound mode rely on where their checks pass; and what leads from the choice's promise to what C is told. Assumes nothing.
use mathlib.Core.Path.{◌≡◌, ap, ◌∙◌}
use mathlib.Core.Bool.{Bool}
use mathlib.Core.List.{List}
use Prim.Native.Nat.{ℕ, suc, ◌+◌, ◌≤◌}
use native.Mathlib.Omega.{arith}
use lib.IntN.{ℤ}
use lib.ListN.{length}
use Rattle.hits.proofs.StartLaws.{length_starts}
use Rattle.std.specs.Prelude.{Result, Ok}
use Rattle.inputs.specs.declared.refusal.Refusal.{Refusal}
use Rattle.inputs.specs.Refusals.{verdict}
use Rattle.inputs.proofs.CheckLaws.{sized}
use Rattle.choices.specs.Choices.{bound_at, bound_hits}
use Rattle.bound.specs.Bound.{BoundChosen}
use Rattle.bound.specs.Called.{choice_code, ChoiceCalled}

-- a total is small
pub bound_short : (K M N k : ℕ) (P T : List ℕ) → verdict K M N k P T ≡ Ok tt → length (bound_hits P T) ≤ N + 1
unfolding bound_hits
bound_short K M N k P T e = omega (arith, (sized K M N k P T e).small, length_starts (bound_at P T) (suc (length T)) 0)

-- the choice, as C is told of it
pub choice_called : (K M N k : ℕ) (P T : List ℕ) (i : ℕ) (d : List ℕ) (a : Result Bool Refusal) (left : List ℕ) → BoundChosen K M N k P T i d a left → (r : ℤ) → r ≡ choice_code a
    → ChoiceCalled K M N k P T i d r left
choice_called K M N k P T i d a left p r e = record { answers = e ∙ ap choice_code p.answers; leaves = p.leaves }
