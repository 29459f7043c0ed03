-- BM: tests right to left; shifts by the larger of two shifts.
--
--   end_met P T i        g, how many letters meet at start i, from the right
--   first_shift P T i g  the least shift that fits the text under them
--   first_tests P T i g  its tests
--   fail_shift P T i j   the shift after a failure at letter j
--   second_shift P T i g the same after the scan, and 1 after a hit
--   bm_turn P T i        a turn at start i
--   bm_run P T           the run
use Rattle.std.specs.Prelude.{ℕ, suc, ◌+◌, ◌-◌, max, cond, ◌&&◌, List, [], eqb, length, get_or}
use Rattle.letters.specs.Members.{keep}
use Rattle.hits.specs.Hits.{within}
use Rattle.hits.specs.Turns.{Turn, Run, run}
use Rattle.hits.specs.Scans.{back, back_tests}
use Rattle.shifts.specs.Least.{least}
use Rattle.shifts.specs.Shift.{fit, trials}
use Rattle.hits.specs.Singles.{all_single}
use Rattle.pattern.specs.Last.{after_r}

-- g: how many letters meet at start i, from the right
abbrev pub end_met : List ℕ → List ℕ → ℕ → ℕ
end_met P T i = back P T i (length P)

-- first shift: the least s from 1 to m that fits the text under P's last g letters
unfoldable pub first_shift : List ℕ → List ℕ → ℕ → ℕ → ℕ
first_shift P T i g = least (fit P T i (length P - g) (length P)) 1 (length P - 1)

-- its tests: none if all of P and those g text letters are single; else those of the trials s = 1, 2, ..
unfoldable pub first_tests : List ℕ → List ℕ → ℕ → ℕ → ℕ
first_tests P T i g =
    cond (all_single P 0 (length P) && all_single T (i + (length P - g)) g) 0
    (trials P T i (length P - g) (length P) 1 (length P - 1))

-- after a failure at P[j]: the larger of 1 and j - R(T[i + j]), which is j + 1 less R + 1
unfoldable pub fail_shift : List ℕ → List ℕ → ℕ → ℕ → ℕ
fail_shift P T i j = max 1 (suc j - after_r P (get_or T (i + j) 0))

-- second shift: after a failure, which is at j = m - 1 - g, as above; after a hit 1
unfoldable pub second_shift : List ℕ → List ℕ → ℕ → ℕ → ℕ
second_shift P T i g = cond (eqb g (length P)) 1 (fail_shift P T i (length P - 1 - g))

-- a turn at start i: the larger of the two shifts is taken
unfoldable pub bm_turn : List ℕ → List ℕ → ℕ → Turn ℕ
bm_turn P T i =
    record {
      found = keep (eqb (end_met P T i) (length P)) i [];
      next = i + max (first_shift P T i (end_met P T i)) (second_shift P T i (end_met P T i));
      scan = back_tests P T i (length P);
      shift = first_tests P T i (end_met P T i);
      steps = 0;
    }

-- from start 0, until the start exceeds n - m
unfoldable pub bm_run : List ℕ → List ℕ → Run
bm_run P T = run (within P T) (bm_turn P T) (suc (length T)) 0
