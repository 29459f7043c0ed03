-- The first hit alone: brute's turns, ended after the first that finds.
--
--   first_run P T       the run of such a search
--   found_of r          its answer: the start that was found, or none, and the scan tests
--   first_of c r        the same, or the refusal, by what the checks say
--   Sought             the promise
--   FirstBound m n a   the scan tests of an answer are at most m for each start that was tested
--   scans_from P T c a  the tests of brute's turns at the c starts from a on
use Rattle.std.specs.Prelude.{ℕ, zero, suc, ◌+◌, ◌-◌, ◌*◌, ◌≤◌, List, length, slice_get, Option, Some, None, Result, Ok, Err}
use Rattle.promise.specs.Promised.{Promised}
use Rattle.hits.specs.Hits.{within}
use Rattle.hits.specs.Turns.{Run, run_first}
use Rattle.inputs.specs.declared.refusal.Refusal.{Refusal}
use Rattle.inputs.specs.Refusals.{Check, verdict}
use Rattle.brute.specs.Brute.{brute_turn}
use Rattle.first.specs.declared.First.{First}

-- from start 0, until a start is a hit or exceeds n - m
unfoldable pub first_run : List ℕ → List ℕ → Run
first_run P T = run_first (within P T) (brute_turn P T) (suc (length T)) 0

abbrev pub found_of : Run → First
found_of r = record { start = slice_get r.found 0; scan = r.scan }

abbrev pub first_of : Check → Run → Result First Refusal
first_of (Err q) r = Err q
first_of (Ok tt) r = Ok (found_of r)

-- the first hit of P in T; there is no lent memory
abbrev pub Sought : ℕ → ℕ → ℕ → ℕ → List ℕ → List ℕ → Result First Refusal → Type 0
Sought K M N k P T a = Promised {B = Unit {0}} (first_of (verdict K M N k P T) (first_run P T)) tt a tt

-- how many starts were tested: 0 to s, or all of them
abbrev tested : ℕ → ℕ → Option ℕ → ℕ
tested m n (Some s) = s + 1
tested m n None = n + 1 - m

abbrev pub FirstBound : ℕ → ℕ → Result First Refusal → Type 0
FirstBound m n (Ok a) = a.scan ≤ m * tested m n a.start
FirstBound m n (Err q) = Unit {0}

unfoldable pub scans_from : List ℕ → List ℕ → ℕ → ℕ → ℕ
scans_from P T zero a = 0
scans_from P T (suc c) a = (brute_turn P T a).scan + scans_from P T c (suc a)
