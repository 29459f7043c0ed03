-- The bound mode called from C: the total, or 1 or 0 for a start; or minus the refusal's number and 256 times its place.
--
--   BoundCalled       the promise of the list from C
--   choice_code a      what is returned for the answer about a start
--   ChoiceCalled      the promise of the choice from C
use Rattle.std.specs.Prelude.{ℕ, Bool, true, false, List, ℤ, pos, length, Result, Ok, Err}
use Rattle.promise.specs.Promised.{Promised}
use Rattle.inputs.specs.Refusals.{verdict, verdict_at}
use Rattle.inputs.specs.declared.refusal.Refusal.{Refusal}
use Rattle.codes.specs.Codes.{refused_code, WrittenCalled}
use Rattle.choices.specs.Choices.{bound_at, bound_hits, lowest_at}
use Rattle.bound.specs.Bound.{choice_of, choice_left}

abbrev pub BoundCalled : ℕ → ℕ → ℕ → ℕ → List ℕ → List ℕ → List ℕ → ℤ → List ℕ → Type 0
BoundCalled K M N k P T d r left = WrittenCalled (verdict K M N k P T) (bound_hits P T) d r left

abbrev pub choice_code : Result Bool Refusal → ℤ
choice_code (Err r) = refused_code r
choice_code (Ok true) = pos 1
choice_code (Ok false) = pos 0

abbrev pub ChoiceCalled : ℕ → ℕ → ℕ → ℕ → List ℕ → List ℕ → ℕ → List ℕ → ℤ → List ℕ → Type 0
ChoiceCalled K M N k P T i d r left =
    let c = verdict_at K M N k P T i (length d) in
    Promised (choice_code (choice_of c (bound_at P T i))) (choice_left c (bound_at P T i) (lowest_at P T i) d) r left
