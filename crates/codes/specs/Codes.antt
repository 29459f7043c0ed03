-- What a call from C returns: a number of its own, or minus what tells the refusal.
--
--   refused_code r      what is returned for a refusal: minus its number and 256 times its place
--   number_code r       the same without the place, as the report is refused
--   code_of c n         n where the checks pass, else what is returned for their refusal
--   numbered_of c n     the same without the place
--   written_code w      what is returned for what a call that writes answered
--   written_number w    the same without the place
--   WrittenCalled      the promise of every call from C that writes what it makes over the front of one lent list
--   WrittenNumbered    the same without the place
use Rattle.std.specs.Prelude.{ℕ, ◌+◌, ◌*◌, ◌^◌, min, List, ℤ, pos, neg_ℤ, length, Result, Ok, Err}
use Rattle.promise.specs.Promised.{Promised}
use Rattle.inputs.specs.Answers.{list_of}
use Rattle.inputs.specs.declared.refusal.Refusal.{Refusal}
use Rattle.inputs.specs.Numbers.{number_of}
use Rattle.inputs.specs.Refusals.{Check}

-- a place above 2 ^ 48 is told as 2 ^ 48
unfoldable pub refused_code : Refusal → ℤ
refused_code r = neg_ℤ (pos (number_of r.kind + 256 * min r.place (2 ^ 48)))

unfoldable pub number_code : Refusal → ℤ
number_code r = neg_ℤ (pos (number_of r.kind))

abbrev pub code_of : Check → ℕ → ℤ
code_of (Err r) n = refused_code r
code_of (Ok tt) n = pos n

abbrev pub numbered_of : Check → ℕ → ℤ
numbered_of (Err r) n = number_code r
numbered_of (Ok tt) n = pos n

-- how much was written; nothing where the call was refused
abbrev pub wrote_of : Result ℕ Refusal → ℕ
wrote_of (Err r) = 0
wrote_of (Ok n) = n

abbrev pub written_code : Result ℕ Refusal → ℤ
written_code (Err r) = refused_code r
written_code (Ok n) = pos n

abbrev pub written_number : Result ℕ Refusal → ℤ
written_number (Err r) = number_code r
written_number (Ok n) = pos n

-- ys over the front of the lent list d where the checks pass; `left` is the list afterwards
abbrev pub WrittenCalled : Check → List ℕ → List ℕ → ℤ → List ℕ → Type 0
WrittenCalled c ys d r left = Promised (code_of c (length ys)) (list_of c ys d) r left

abbrev pub WrittenNumbered : Check → List ℕ → List ℕ → ℤ → List ℕ → Type 0
WrittenNumbered c ys d r left = Promised (numbered_of c (length ys)) (list_of c ys d) r left
