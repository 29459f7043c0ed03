-- Hybrid (W. F. Smyth, Shu Wang: An Adaptive Hybrid Pattern-Matching Algorithm on Indeterminate Strings, figure 1): a scan test of the last letter at each start; Sunday's shift where it fails, word steps where it holds.
--
--   stretched r, shifted i   the turn where the test holds, with the steps r; and where it fails, with the next start i
--   hybrid_turn P T a         a turn at start a
--   hybrid_run P T            the run from start 0
--   hybrid_turned total t     what a turn comes to in code, where `total` hits were noted before it
--   HybridTurns              a step of the code makes a turn, and notes its hits
use Rattle.std.specs.Prelude.{ℕ, suc, ◌+◌, ◌-◌, cond, List, [], length, get_or}
use Rattle.promise.specs.Promised.{Promised}
use Rattle.letters.specs.Letters.{meets}
use Rattle.hits.specs.Hits.{within}
use Rattle.hits.specs.Turns.{Turn, Run, run}
use Rattle.hits.specs.Counts.{noted_all}
use Rattle.sunday.specs.Sunday.{next_start}
use Rattle.hybrid.specs.Stretches.{Stretch, stretch}
use Rattle.hybrid.specs.declared.HybridTurned.{HybridTurned}

-- the test holds: the state is cleared and word steps are taken from a; the next start is the position after the last step
abbrev pub stretched : Stretch → Turn ℕ
stretched r = record { found = r.found; next = r.next; scan = 1; shift = 0; steps = r.steps }

-- the test fails: end if a + m = n, else shift as Sunday, which is `next_start`
abbrev pub shifted : ℕ → Turn ℕ
shifted i = record { found = []; next = i; scan = 1; shift = 0; steps = 0 }

-- a turn at start a
unfoldable pub hybrid_turn : List ℕ → List ℕ → ℕ → Turn ℕ
hybrid_turn P T a =
    cond (meets (get_or P (length P - 1) 0) (get_or T (a + length P - 1) 0))
    (stretched (stretch P T (length T - a) a 0))
    (shifted (next_start P T a))

-- from start 0, until the start exceeds n - m
unfoldable pub hybrid_run : List ℕ → List ℕ → Run
hybrid_run P T = run (within P T) (hybrid_turn P T) (suc (length T)) 0

-- what a turn comes to in code, where `total` hits were noted before it
abbrev pub hybrid_turned : ℕ → Turn ℕ → HybridTurned
hybrid_turned total t = record { next = t.next; total = total + length t.found; scan = t.scan; steps = t.steps }

-- a step of the code makes the turn t: d is the lent list before, `left` the list afterwards
abbrev pub HybridTurns : Turn ℕ → List ℕ → ℕ → HybridTurned → List ℕ → Type 0
HybridTurns t d total r left = Promised (hybrid_turned total t) (noted_all t.found d total) r left
