-- KMP: at start i, with r letters already known to meet, tests on from P[r], left to right, until a failure or a full hit; the shift is the least that the letters that now meet allow.
--
--   now_met P T s        h, the number of letters that now meet
--   shift_by P T i h     the shift from start i
--   shift_tests P T i h  the tests that finding it takes
--   shifted_to i h s     the state after a shift by s
--   kmp_turn, kmp_run     the rule, and its run from start 0
--
-- And of the code:
--
--   kmp_turn_of i r           the turn that a step of the code at start i stands for
--   at_of s                   the state where it stands
--   NotSingleAt T i r u     u tells where the last text letter that is not single stands
--   Known P T s             what the code holds where it stands
--   Scanned P T s c         and where a scan on from s has stopped
--   KmpReady M P by sure    what it holds of the pattern
use Rattle.std.specs.Prelude.{ℕ, suc, ◌+◌, ◌-◌, ◌≤◌, max, ◌≡◌, Bool, true, cond, ◌&&◌, List, [], eqb, length}
use Rattle.letters.specs.Members.{keep}
use Rattle.letters.specs.Sizes.{SizedPattern}
use Rattle.hits.specs.Hits.{met, within}
use Rattle.hits.specs.Scans.{reach, tests}
use Rattle.hits.specs.Turns.{Turn, Run, run}
use Rattle.hits.specs.Singles.{all_single, not_single_below}
use Rattle.shifts.specs.Least.{least}
use Rattle.shifts.specs.Shift.{fit, trials}
use Rattle.pattern.specs.Tables.{sure_prefix, front_shifts}
use Rattle.kmp.specs.declared.KmpTurned.{KmpTurned}
use Rattle.kmp.specs.declared.Standing.{Standing}

-- start i, with r letters known to meet
pub record At : Type 0 where
  pub start : ℕ
  pub known : ℕ

-- tests on from P[r] until a failure or a full hit
unfoldable pub now_met : List ℕ → List ℕ → At → ℕ
now_met P T s = reach P T s.start s.known (length P - s.known)

-- if h = 0 the shift is 1; else the least s from 1 to h for which i + s exceeds n - m or P's first h - s letters meet T from i + s on
-- (a shift by h always fits: no letter is left to meet)
unfoldable pub shift_by : List ℕ → List ℕ → ℕ → ℕ → ℕ
shift_by P T i h = cond (eqb h 0) 1 (least (fit P T i 0 h) 1 (h - 1))

-- if P's first h letters and the text under them are all single, no test; otherwise s = 1, 2, .. are tried in turn
unfoldable pub shift_tests : List ℕ → List ℕ → ℕ → ℕ → ℕ
shift_tests P T i h = cond (all_single P 0 h && all_single T i h) 0 (trials P T i 0 h 1 (h - 1))

-- the state after a shift by s: the next r is h - s, which is 0 where h is
abbrev pub shifted_to : ℕ → ℕ → ℕ → At
shifted_to i h s = record { start = i + s; known = h - s }

-- a turn
unfoldable pub kmp_turn : List ℕ → List ℕ → At → Turn At
kmp_turn P T s =
    record {
      found = keep (eqb (now_met P T s) (length P)) s.start [];
      next = shifted_to s.start (now_met P T s) (shift_by P T s.start (now_met P T s));
      scan = tests P T s.start s.known (length P - s.known);
      shift = shift_tests P T s.start (now_met P T s);
      steps = 0;
    }

-- until the start exceeds n - m
abbrev pub kmp_more : List ℕ → List ℕ → At → Bool
kmp_more P T s = within P T s.start

-- from start 0 with no letter known
unfoldable pub kmp_run : List ℕ → List ℕ → Run
kmp_run P T = run (kmp_more P T) (kmp_turn P T) (suc (length T)) (record { start = 0; known = 0 })

-- where the code stands, as the rule has it
abbrev pub at_of : Standing → At
at_of s = record { start = s.start; known = s.known }

-- the turn that a step of the code at start i stands for
abbrev pub kmp_turn_of : ℕ → KmpTurned → Turn At
kmp_turn_of i r = record { found = keep r.hit i []; next = at_of r.next; scan = r.scan; shift = r.shift; steps = 0 }

-- u tells where, from i on, the last letter that is not single among the first i + r of T stands: the index after it; at or below i, there is none
abbrev pub NotSingleAt : List ℕ → ℕ → ℕ → ℕ → Type 0
NotSingleAt T i r u = max u i ≡ max (not_single_below T (i + r)) i

-- what the code holds of a pattern P within its limit M: the length of its single prefix, and its own shifts
pub record KmpReady (M : ℕ) (P by : List ℕ) (sure : ℕ) : Type 0 where
  pub sized : SizedPattern M P
  pub prefix : sure ≡ sure_prefix P
  pub shifts : by ≡ front_shifts M P

-- what the code holds where it stands: that the known letters meet there, and the index after the last that is unsure
pub record Known (P T : List ℕ) (s : Standing) : Type 0 where
  pub inside : s.start + length P ≤ length T
  pub short : s.known ≤ length P
  pub meet : met P T s.start 0 s.known ≡ true
  pub carried : NotSingleAt T s.start s.known s.unsure

-- a scan on from s stopped at c: at the same start, with the letters that now meet
pub record Scanned (P T : List ℕ) (s c : Standing) : Type 0 where
  pub same : c.start ≡ s.start
  pub met : c.known ≡ now_met P T (at_of s)
  pub here : Known P T c
