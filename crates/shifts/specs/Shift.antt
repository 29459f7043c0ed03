-- The shift of KMP and of BM, found by trying: at start i the letters lo to hi - 1 of P meet the text.
--
--   covers lo hi s           how many of those text positions a pattern shifted by s still covers
--   fit P T i lo hi s        shifted by s, P stands beyond the last start, or meets the text at every one of them that it still covers
--   trial P T i lo hi s      the shift tests of one trial: covered positions left to right, none beyond the last start
--   trials P T i lo hi s f   those of the trials s, s + 1, .., up to the first that fits; at most f of them
--   self_fit P lo hi s        P moved by s over itself meets itself under its letters lo to hi - 1, as far as it still covers them
use Rattle.std.specs.Prelude.{ℕ, zero, suc, ◌+◌, ◌-◌, Bool, cond, ◌||◌, List, leb, ltb, length}
use Rattle.hits.specs.Scans.{tests}
use Rattle.hits.specs.Hits.{met}

abbrev pub covers : ℕ → ℕ → ℕ → ℕ
covers lo hi s = hi - s - (lo - s)

unfoldable pub fit : List ℕ → List ℕ → ℕ → ℕ → ℕ → ℕ → Bool
fit P T i lo hi s = ltb (length T) (i + s + length P) || met P T (i + s) (lo - s) (covers lo hi s)

unfoldable pub trial : List ℕ → List ℕ → ℕ → ℕ → ℕ → ℕ → ℕ
trial P T i lo hi s = cond (leb (i + s + length P) (length T)) (tests P T (i + s) (lo - s) (covers lo hi s)) 0

unfoldable pub trials : List ℕ → List ℕ → ℕ → ℕ → ℕ → ℕ → ℕ → ℕ
trials P T i lo hi from zero = 0
trials P T i lo hi from (suc f) = trial P T i lo hi from + cond (fit P T i lo hi from) 0 (trials P T i lo hi (suc from) f)

unfoldable pub self_fit : List ℕ → ℕ → ℕ → ℕ → Bool
self_fit P lo hi s = met P P s (lo - s) (covers lo hi s)
