-- What a report says, as values: the starts that are hits, and the run of each engine, in the report's order.
use Rattle.std.specs.Prelude.{ℕ, List, [], map}
use Rattle.hits.specs.Turns.{Run}
use Rattle.hits.specs.declared.work.Work.{Work}

pub record Values : Type 0 where
  pub starts : List ℕ
  pub runs : List Run

-- the three counts of a run; where they are reported, the hits that it found are not looked at
abbrev pub run_in : Work → Run
run_in w = record { found = []; scan = w.scan; shift = w.shift; steps = w.steps }

-- these starts, and what the engines counted
abbrev pub values_in : List Work → List ℕ → Values
values_in works starts = record { starts = starts; runs = map run_in works }
