use Rattle.std.proofs.Common.{◌≡◌, ℕ, ◌+◌, ◌-◌, Bool, ◌&&◌, List}
use Rattle.hits.specs.Scans.{back}
use Rattle.hits.specs.Singles.{all_single}
use Rattle.hits.proofs.scan.scan_back.Given as goal

-- the scan has come down to k: the letters from there on meet, and whether they are single is known
pub record CameDown (P T : List ℕ) (whole : Bool) (i e k : ℕ) (sure : Bool) : Type 0 where
  pub ahead : back P T i e ≡ e - k + back P T i k
  pub singles : sure ≡ (whole && all_single T (i + k) (e - k))

abbrev pub invariant-loop-j : goal.invariant-loop-j
invariant-loop-j l = CameDown l.p l.t l.whole l.i l.e l.j l.sure
