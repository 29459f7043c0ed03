-- The bound mode's two calls: the list of all bound-listed starts, and the choice at one start.
--
--   BoundSearched           the list's promise: the total of the starts, or the refusal
--   choice_of c b            the answer about a start: whether it is bound-listed, or the refusal
--   choice_left c b ys d     what the lent list d holds afterwards: ys over its front where the start is bound-listed, else all as it was
--   BoundChosen             its promise
use Rattle.std.specs.Prelude.{ℕ, Bool, true, false, List, length, Result, Ok, Err}
use Rattle.promise.specs.Promised.{Promised}
use Rattle.lent.specs.Over.{over}
use Rattle.inputs.specs.Refusals.{Check, verdict, verdict_at}
use Rattle.inputs.specs.Answers.{WrittenInto}
use Rattle.inputs.specs.declared.refusal.Refusal.{Refusal}
use Rattle.choices.specs.Choices.{bound_at, bound_hits, lowest_at}

-- d is the lent list before, `left` afterwards: the starts over its front, as far as it reaches. All of them are counted
abbrev pub BoundSearched : ℕ → ℕ → ℕ → ℕ → List ℕ → List ℕ → List ℕ → Result ℕ Refusal → List ℕ → Type 0
BoundSearched K M N k P T d r left = WrittenInto (verdict K M N k P T) (bound_hits P T) d r left

abbrev pub choice_of : Check → Bool → Result Bool Refusal
choice_of (Err r) b = Err r
choice_of (Ok tt) b = Ok b

abbrev pub choice_left : Check → Bool → List ℕ → List ℕ → List ℕ
choice_left (Err r) b ys d = d
choice_left (Ok tt) true ys d = over ys d
choice_left (Ok tt) false ys d = d

-- the choice at start i: for each letter of P the lowest base letter that it can be given
abbrev pub BoundChosen : ℕ → ℕ → ℕ → ℕ → List ℕ → List ℕ → ℕ → List ℕ → Result Bool Refusal → List ℕ → Type 0
BoundChosen K M N k P T i d r left =
    let c = verdict_at K M N k P T i (length d) in
    Promised (choice_of c (bound_at P T i)) (choice_left c (bound_at P T i) (lowest_at P T i) d) r left
