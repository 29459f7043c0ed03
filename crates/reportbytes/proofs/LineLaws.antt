-- The bytes of a report: their lengths, and its lines one by one. Assumes nothing.
use Prim.Native.Nat.{ℕ, ◌+◌, ◌≤◌, ◌<◌}
use mathlib.Core.Path.{◌≡◌}
use mathlib.Core.List.{List, [], ◌++◌, map}
use native.Mathlib.Numerals.{add-one}
use native.Mathlib.Omega.{arith}
use lib.ListN.{length, get_or, drop, length-append, length-map, get_or-map, drop_of_length-le}
use lib.Seq.{drop-cons}
use Rattle.hits.specs.Turns.{Run}
use Rattle.hits.specs.declared.work.Work.{Work}
use Rattle.decimal.specs.Decimal.{ended}
use Rattle.engines.specs.declared.engine.Engine.{Engine}
use Rattle.engines.specs.declared.engine.Engine.TheVariants.{Brute}
use Rattle.engines.specs.Engines.{the_six, name_of}
use Rattle.reportbytes.specs.Values.{Values, run_in}
use Rattle.reportbytes.specs.Bytes.{start_lines, counts, engine_line, engine_lines, bytes_of}

pub counts_length : (r : Run) → length (counts r) ≡ length (ended r.scan 32) + length (ended r.shift 32) + length (ended r.steps 10)
unfolding counts
counts_length r = simp length-append (omega arith)

pub engine_length : (e : Engine) (r : Run) → length (engine_line e r) ≡ length (name_of e) + length (counts r)
unfolding engine_line
engine_length e r = length-append (name_of e) (counts r)

pub bytes_length : (v : Values) → length (bytes_of v) ≡ 5 + length (ended (length v.starts) 10) + length (start_lines v.starts) + length (engine_lines the_six v.runs)
unfolding bytes_of
bytes_length v = simp length-append (omega arith)

-- the starts from i on
module _ (xs : List ℕ) (i : ℕ) where
  pub starts_on : (x : ℕ) → x ≡ get_or xs i 0 → i < length xs → start_lines (drop i xs) ≡ ended x 10 ++ start_lines (drop (i + 1) xs)
  unfolding start_lines
  starts_on x e h = rw (e, add-one i, drop-cons xs i 0 h)

  pub starts_end : length xs ≤ i → start_lines (drop i xs) ≡ []
  unfolding start_lines
  starts_end h = rw (drop_of_length-le xs h)

-- what the engines counted, from i on
module _ (works : List Work) (i : ℕ) where
  -- the line of the engine at i
  abbrev pub line_at : List ℕ
  line_at = engine_line (get_or the_six i Brute) (run_in (get_or works i (record { total = 0; scan = 0; shift = 0; steps = 0 })))

  pub engines_on : i < length the_six → length works ≡ length the_six
      → engine_lines (drop i the_six) (drop i (map run_in works)) ≡ line_at ++ engine_lines (drop (i + 1) the_six) (drop (i + 1) (map run_in works))
  unfolding engine_lines
  engines_on h l =
      let w : Work = record { total = 0; scan = 0; shift = 0; steps = 0 } in
      rw (add-one i, drop-cons the_six i Brute h, drop-cons (map run_in works) i (run_in w) (omega (arith, length-map works run_in)), get_or-map run_in works i w)

  pub engines_end : length the_six ≤ i → engine_lines (drop i the_six) (drop i (map run_in works)) ≡ []
  unfolding engine_lines
  engines_end h = rw (drop_of_length-le the_six h)
