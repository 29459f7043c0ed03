-- Which starts are hits, and the list of all hits.
--
--   met P T i a c      P standing at start i: its c letters from a on meet the text
--   within P T i       start i is at most n - m
--   hit_at P T i        start i is a hit
--   starts_from b c a   of the c starts from a on those that pass the test b, ascending
--   hits_from P T c a   the hits among the c starts from a on, ascending
--   hits P T           all hits, ascending
--
-- A letter that is not there is read as 0, which meets nothing.
use Rattle.std.specs.Prelude.{ℕ, zero, suc, ◌+◌, Bool, true, ◌&&◌, List, [], leb, length, get_or}
use Rattle.letters.specs.Letters.{meets}
use Rattle.letters.specs.Members.{keep}

unfoldable pub met : List ℕ → List ℕ → ℕ → ℕ → ℕ → Bool
met P T i a zero = true
met P T i a (suc c) = meets (get_or P a 0) (get_or T (i + a) 0) && met P T i (suc a) c

abbrev pub within : List ℕ → List ℕ → ℕ → Bool
within P T i = leb (i + length P) (length T)

unfoldable pub hit_at : List ℕ → List ℕ → ℕ → Bool
hit_at P T i = within P T i && met P T i 0 (length P)

-- the same for any kind of hit: a test on starts
unfoldable pub starts_from : (ℕ → Bool) → ℕ → ℕ → List ℕ
starts_from b zero a = []
starts_from b (suc c) a = keep (b a) a (starts_from b c (suc a))

abbrev pub hits_from : List ℕ → List ℕ → ℕ → ℕ → List ℕ
hits_from P T c a = starts_from (hit_at P T) c a

unfoldable pub hits : List ℕ → List ℕ → List ℕ
hits P T = hits_from P T (suc (length T)) 0
