-- The bytes of a report: total hits; each start; then engine, scan tests, shift tests, word steps. Numbers are decimal, one space parts the fields, every line ends with LF.
--
--   hits_name         `hits`, with the space after it
--   start_lines xs    each start on a line
--   counts r         an engine's three counts, to the end of its line
--   engine_line e r   an engine's line
--   engine_lines      the lines of several
--   bytes_of v        the whole report
use Rattle.std.specs.Prelude.{ℕ, List, [], ◌∷◌, ◌++◌, length}
use Rattle.decimal.specs.Decimal.{ended}
use Rattle.hits.specs.Turns.{Run}
use Rattle.engines.specs.declared.engine.Engine.{Engine}
use Rattle.engines.specs.Engines.{the_six, name_of}
use Rattle.reportbytes.specs.Values.{Values}

abbrev pub hits_name : List ℕ
hits_name = 104 ∷ 105 ∷ 116 ∷ 115 ∷ 32 ∷ []

unfoldable pub start_lines : List ℕ → List ℕ
start_lines [] = []
start_lines (x ∷ xs) = ended x 10 ++ start_lines xs

unfoldable pub counts : Run → List ℕ
counts r = ended r.scan 32 ++ (ended r.shift 32 ++ ended r.steps 10)

unfoldable pub engine_line : Engine → Run → List ℕ
engine_line e r = name_of e ++ counts r

unfoldable pub engine_lines : List Engine → List Run → List ℕ
engine_lines [] rs = []
engine_lines (e ∷ es) [] = []
engine_lines (e ∷ es) (r ∷ rs) = engine_line e r ++ engine_lines es rs

unfoldable pub bytes_of : Values → List ℕ
bytes_of v = hits_name ++ (ended (length v.starts) 10 ++ (start_lines v.starts ++ engine_lines the_six v.runs))
