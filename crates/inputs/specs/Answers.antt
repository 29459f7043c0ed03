-- What a call answers, and what it leaves in lent memory.
--
--   answer_of, list_of   of a search: by what its checks say, its hits and its run
--   Searched           the promise of all six engines
--   written_of          of a call that writes: how much, or the refusal
--   WrittenInto        the promise of every call that writes what it makes over the front of one lent list
--   scan_of, shift_of, steps_of   the counts of an answer
use Rattle.std.specs.Prelude.{ℕ, List, length, Result, Ok, Err}
use Rattle.promise.specs.Promised.{Promised}
use Rattle.hits.specs.Hits.{hits}
use Rattle.lent.specs.Over.{over}
use Rattle.hits.specs.Turns.{Run}
use Rattle.hits.specs.Counts.{work_of}
use Rattle.hits.specs.declared.work.Work.{Work}
use Rattle.inputs.specs.declared.refusal.Refusal.{Refusal}
use Rattle.inputs.specs.Refusals.{Check, verdict}

-- the refusal's number and place; or the total of all hits and the three counts
abbrev pub answer_of : Check → List ℕ → Run → Result Work Refusal
answer_of (Err r) hs w = Err r
answer_of (Ok tt) hs w = Ok (work_of hs w)

-- the first hits, as far as the list reaches, and the rest as it was; all as it was where the search is refused
abbrev pub list_of : Check → List ℕ → List ℕ → List ℕ
list_of (Err r) hs d = d
list_of (Ok tt) hs d = over hs d

-- a search for P in T by an engine whose rule makes this run. d is the lent list before, `left` the list afterwards
abbrev pub Searched : (List ℕ → List ℕ → Run) → ℕ → ℕ → ℕ → ℕ → List ℕ → List ℕ → List ℕ → Result Work Refusal → List ℕ → Type 0
Searched rule K M N k P T d r left =
    Promised (answer_of (verdict K M N k P T) (hits P T) (rule P T)) (list_of (verdict K M N k P T) (hits P T) d) r left

-- the refusal's number and place; or the length of what is written
abbrev pub written_of : Check → List ℕ → Result ℕ Refusal
written_of (Err r) ys = Err r
written_of (Ok tt) ys = Ok (length ys)

-- ys over the front of the lent list d where the checks pass; `left` is the list afterwards
abbrev pub WrittenInto : Check → List ℕ → List ℕ → Result ℕ Refusal → List ℕ → Type 0
WrittenInto c ys d r left = Promised (written_of c ys) (list_of c ys d) r left

-- the counts of an answer; none where the search is refused
abbrev pub scan_of : Result Work Refusal → ℕ
scan_of (Err r) = 0
scan_of (Ok w) = w.scan

abbrev pub shift_of : Result Work Refusal → ℕ
shift_of (Err r) = 0
shift_of (Ok w) = w.shift

abbrev pub steps_of : Result Work Refusal → ℕ
steps_of (Err r) = 0
steps_of (Ok w) = w.steps
