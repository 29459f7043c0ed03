-- An engine whose state is the start alone: what is asked of its turns, and its run.
--
--   Settles P T i t    the turn t at start i settles the starts that it passes
--   Settling P T turn  each turn of an engine does so
--   starts_run turn    its run, from start 0, until the start exceeds n - m
use Rattle.std.specs.Prelude.{ℕ, suc, ◌+◌, ◌≤◌, ◌≡◌, List, length}
use Rattle.hits.specs.Hits.{within, hits_from}
use Rattle.hits.specs.Turns.{Turn, Run, run}

-- it passes start i and `more` others, finds the hits among them, and ends at the next start, at most one past the text
pub record Settles (P T : List ℕ) (i : ℕ) (t : Turn ℕ) : Type 0 where
  pub more : ℕ
  pub moved : t.next ≡ i + suc more
  pub near : t.next ≤ length T + 1
  pub right : t.found ≡ hits_from P T (suc more) i

abbrev pub Settling : List ℕ → List ℕ → (ℕ → Turn ℕ) → Type 0
Settling P T turn = (i : ℕ) → i + length P ≤ length T → Settles P T i (turn i)

abbrev pub starts_run : (List ℕ → List ℕ → ℕ → Turn ℕ) → List ℕ → List ℕ → Run
starts_run turn P T = run (within P T) (turn P T) (suc (length T)) 0
