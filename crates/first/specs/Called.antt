-- The first hit called from C: 1 or 0, or minus the refusal's number and 256 times its place; the scan tests, and the start if there is one, in lent memory.
--
--   first_code a      what is returned for an answer
--   found_left a d    what the lent list d holds afterwards
--   FirstCalled      the promise
use Rattle.std.specs.Prelude.{ℕ, List, ◌∷◌, ℤ, pos, length, Option, Some, None, option_to_list, Result, Ok, Err}
use Rattle.promise.specs.Promised.{Promised}
use Rattle.lent.specs.Over.{over}
use Rattle.inputs.specs.declared.refusal.Refusal.{Refusal}
use Rattle.inputs.specs.Refusals.{verdict, with_room}
use Rattle.codes.specs.Codes.{refused_code}
use Rattle.first.specs.First.{first_run, first_of}
use Rattle.first.specs.declared.First.{First}

abbrev whether : Option ℕ → ℤ
whether (Some s) = pos 1
whether None = pos 0

abbrev pub first_code : Result First Refusal → ℤ
first_code (Ok a) = whether a.start
first_code (Err q) = refused_code q

abbrev pub found_left : Result First Refusal → List ℕ → List ℕ
found_left (Ok a) d = over (a.scan ∷ option_to_list a.start) d
found_left (Err q) d = d

-- d is the lent list before, `left` afterwards. 8 where it has no room for two numbers, after all other checks, whether there is a hit or not
abbrev pub FirstCalled : ℕ → ℕ → ℕ → ℕ → List ℕ → List ℕ → List ℕ → ℤ → List ℕ → Type 0
FirstCalled K M N k P T d r left =
    let a = first_of (with_room 2 (length d) (verdict K M N k P T)) (first_run P T) in
    Promised (first_code a) (found_left a d) r left
