-- The values of a report on a pattern and a text: the hits, and the run of each engine.
--
--   values_of P T   the values
--   works_of P T    what each engine counts, in the code's types
use Rattle.std.specs.Prelude.{ℕ, List, map}
use Rattle.hits.specs.Hits.{hits}
use Rattle.hits.specs.Counts.{work_of}
use Rattle.hits.specs.declared.work.Work.{Work}
use Rattle.engines.specs.declared.engine.Engine.{Engine}
use Rattle.engines.specs.Engines.{the_six, run_of}
use Rattle.reportbytes.specs.Values.{Values}

unfoldable pub values_of : List ℕ → List ℕ → Values
values_of P T = record { starts = hits P T; runs = map (λ (e : Engine). run_of e P T) the_six }

abbrev pub works_of : List ℕ → List ℕ → List Work
works_of P T = map (λ (e : Engine). work_of (hits P T) (run_of e P T)) the_six
