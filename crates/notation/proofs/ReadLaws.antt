-- Reading byte by byte: what one byte does to what is read. Assumes nothing.
use mathlib.Core.Path.{◌≡◌}
use mathlib.Core.Bool.{Bool}
use mathlib.Core.List.{List, [], ◌∷◌}
use Prim.Native.Nat.{ℕ, suc, ◌+◌, ◌≤◌}
use native.Mathlib.Omega.{arith}
use lib.ListN.{length}
use Rattle.notation.specs.Reader.{State, out, Move, stop, end, to, letter, byte_move, Read, got, wrong, more, follow, read_from}

pub read_on : (marks : Bool) (A : List ℕ) (σ : State) (at b : ℕ) (s : List ℕ) (m : Move) → byte_move marks A σ b ≡ m → read_from marks A σ at (b ∷ s) ≡ follow m at (λ τ. read_from marks A τ (suc at) s)
unfolding read_from
read_on marks A σ at b s m e = rw e

pub more_got : (c : ℕ) (r : Read) (cs : List ℕ) (e : ℕ) → more c r ≡ got cs e → (ds : List ℕ) × (r ≡ got ds e) × (cs ≡ c ∷ ds)
more_got c (got ds f) cs e q = (ds, (cc), (cc))
more_got c (wrong f) cs e q = cc

pub more_wrong : (c : ℕ) (r : Read) (q : ℕ) → more c r ≡ wrong q → r ≡ wrong q
more_wrong c (got ds f) q e = cc
more_wrong c (wrong f) q e = e

-- a line that is read has a byte for each letter and one more, and ends within the sheet
pub read_in : (marks : Bool) (A s : List ℕ) (σ : State) (at : ℕ) (cs : List ℕ) (e : ℕ) → read_from marks A σ at s ≡ got cs e → (at + length cs + 1 ≤ e) × (e ≤ at + length s)
unfolding read_from
read_in marks A [] σ at cs e q = cc
read_in marks A (b ∷ s) σ at cs e q = go (byte_move marks A σ b) q (λ τ ds r. read_in marks A s τ (suc at) ds e r)
  where
    go : (m : Move) → follow m at (λ τ. read_from marks A τ (suc at) s) ≡ got cs e
        → ((τ : State) (ds : List ℕ) → read_from marks A τ (suc at) s ≡ got ds e → (suc at + length ds + 1 ≤ e) × (e ≤ suc at + length s)) → (at + length cs + 1 ≤ e) × (e ≤ at + suc (length s))
    go stop w ih = cc
    go end w ih = let x : e ≡ suc at = cc in let y : [] ≡ cs = cc in (rw (← y) (omega arith), omega arith)
    go (to τ) w ih = let i = ih τ cs w in (omega arith, omega arith)
    go (letter c) w ih =
        let g = more_got c (read_from marks A out (suc at) s) cs e w in
        let i = ih out g.0 g.1 in
        (rw g.2 (omega arith), omega arith)
