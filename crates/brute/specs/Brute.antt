-- Brute: tests each start left to right; the next start is one on.
use Rattle.std.specs.Prelude.{ℕ, suc, ◌+◌, List, [], eqb, length}
use Rattle.letters.specs.Members.{keep}
use Rattle.hits.specs.Hits.{within}
use Rattle.hits.specs.Scans.{reach, tests}
use Rattle.hits.specs.Turns.{Turn, Run, run}

-- a turn at start i
unfoldable pub brute_turn : List ℕ → List ℕ → ℕ → Turn ℕ
brute_turn P T i =
    record {
      found = keep (eqb (reach P T i 0 (length P)) (length P)) i [];
      next = i + 1;
      scan = tests P T i 0 (length P);
      shift = 0;
      steps = 0;
    }

-- from start 0, until the start exceeds n - m
unfoldable pub brute_run : List ℕ → List ℕ → Run
brute_run P T = run (within P T) (brute_turn P T) (suc (length T)) 0
