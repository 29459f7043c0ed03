-- How far the pattern, moved over itself, meets itself: what the tables of shifts are worked out from.
use Rattle.std.specs.Prelude.{ℕ, ◌+◌, ◌-◌, cond, List, eqb, length}
use Rattle.hits.specs.Scans.{reach, back}

-- moved by s, the index of P up to which it meets itself, counted from P's start
abbrev pub front_far : List ℕ → ℕ → ℕ
front_far P s = s + reach P P s 0 (length P - s)

-- moved by s, how many of P's last letters it meets; all of them if it meets as far as it covers
unfoldable pub end_far : List ℕ → ℕ → ℕ
end_far P s = cond (eqb (back P P s (length P - s)) (length P - s)) (length P) (back P P s (length P - s))
