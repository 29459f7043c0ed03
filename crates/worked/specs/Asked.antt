-- What an example asks, and what the definitions answer to it. The limits are the numbers themselves.
use Rattle.std.specs.Prelude.{ℕ, Bool, List, map, length, Result}
use Rattle.hits.specs.Hits.{hits}
use Rattle.hits.specs.declared.work.Work.{Work}
use Rattle.inputs.specs.Refusals.{Check, verdict, verdict_at}
use Rattle.inputs.specs.Answers.{answer_of, written_of, list_of}
use Rattle.inputs.specs.declared.refusal.Refusal.{Refusal}
use Rattle.engines.specs.declared.engine.Engine.{Engine}
use Rattle.engines.specs.Engines.{run_of}
use Rattle.first.specs.First.{first_run, first_of}
use Rattle.first.specs.declared.First.{First}
use Rattle.choices.specs.Choices.{bound_at, bound_hits, lowest_at}
use Rattle.bound.specs.Bound.{choice_of, choice_left}
use Rattle.reasons.specs.Reasons.{shared_at}
use Rattle.sheet.specs.Answers.{check_of}
use Rattle.report.specs.Report.{report_for, bytes_in}
use Rattle.products.specs.Primes.{product_of, letter_of}
use Rattle.products.specs.Conversions.{to_verdict, from_verdict}
use Rattle.products.specs.Meetings.{pair_verdict, products_meet, meeting_of}

-- a search by an engine for a pattern in a text over k base letters, with a list lent; the first hit alone; the bound mode's list, and its choice at a start; what is shared at a start, with a list lent; letters to products and back, with a list lent; two products
pub data Asked : Type 0 where
  ask_search : Engine → ℕ → List ℕ → List ℕ → List ℕ → Asked
  ask_first : ℕ → List ℕ → List ℕ → Asked
  ask_bound : ℕ → List ℕ → List ℕ → List ℕ → Asked
  ask_choice : ℕ → List ℕ → List ℕ → ℕ → List ℕ → Asked
  ask_reasons : ℕ → List ℕ → List ℕ → ℕ → List ℕ → Asked
  ask_products : ℕ → List ℕ → List ℕ → Asked
  ask_letters : ℕ → List ℕ → List ℕ → Asked
  ask_meeting : ℕ → ℕ → ℕ → Asked
  ask_report : List ℕ → List ℕ → Asked

-- what is answered, and what the lent list holds afterwards
pub data Handed : Type 0 where
  give_search : Result Work Refusal → List ℕ → Handed
  give_first : Result First Refusal → Handed
  give_choice : Result Bool Refusal → List ℕ → Handed
  give_list : Result ℕ Refusal → List ℕ → Handed
  give_meeting : Result Bool Refusal → Handed

-- how much is written, and the list afterwards, by what the checks say
abbrev writes : Check → List ℕ → List ℕ → Handed
writes c ys d = give_list (written_of c ys) (list_of c ys d)

abbrev pub given : Asked → Handed
given (ask_search e k P T d) =
    let c = verdict 32 64 65536 k P T in
    give_search (answer_of c (hits P T) (run_of e P T)) (list_of c (hits P T) d)
given (ask_first k P T) = give_first (first_of (verdict 32 64 65536 k P T) (first_run P T))
given (ask_bound k P T d) = writes (verdict 32 64 65536 k P T) (bound_hits P T) d
given (ask_choice k P T i d) =
    let c = verdict_at 32 64 65536 k P T i (length d) in
    give_choice (choice_of c (bound_at P T i)) (choice_left c (bound_at P T i) (lowest_at P T i) d)
given (ask_reasons k P T i d) = writes (verdict_at 32 64 65536 k P T i (length d)) (shared_at P T i) d
given (ask_products k cs d) = writes (to_verdict 32 9 65536 k cs (length d)) (map product_of cs) d
given (ask_letters k vs d) = writes (from_verdict 32 9 65536 k vs (length d)) (map letter_of vs) d
given (ask_meeting k a b) = give_meeting (meeting_of (pair_verdict 32 9 k a b) (products_meet a b))
given (ask_report s d) =
    let o = report_for 8192 32 64 65536 s (length d) in
    writes (check_of o) (bytes_in o) d
