-- Sunday: tests left to right, then shifts by m - R(T[i+m]); if i + m = n it ends.
use Rattle.std.specs.Prelude.{ℕ, suc, ◌+◌, ◌-◌, cond, List, [], eqb, length, get_or}
use Rattle.letters.specs.Members.{keep}
use Rattle.hits.specs.Hits.{within}
use Rattle.hits.specs.Scans.{reach, tests}
use Rattle.hits.specs.Turns.{Turn, Run, run}
use Rattle.pattern.specs.Last.{after_r}

-- the start after i. If i + m = n it is i + 1, which exceeds n - m, so that the run ends; else i is shifted by m - R(T[i+m]), and `after_r` is R + 1
unfoldable pub next_start : List ℕ → List ℕ → ℕ → ℕ
next_start P T i = cond (eqb (i + length P) (length T)) (i + 1) (i + (length P + 1 - after_r P (get_or T (i + length P) 0)))

-- a turn at start i
unfoldable pub sunday_turn : List ℕ → List ℕ → ℕ → Turn ℕ
sunday_turn P T i =
    record {
      found = keep (eqb (reach P T i 0 (length P)) (length P)) i [];
      next = next_start P T i;
      scan = tests P T i 0 (length P);
      shift = 0;
      steps = 0;
    }

-- from start 0, until the start exceeds n - m
unfoldable pub sunday_run : List ℕ → List ℕ → Run
sunday_run P T = run (within P T) (sunday_turn P T) (suc (length T)) 0
