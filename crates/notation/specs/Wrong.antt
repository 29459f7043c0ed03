-- The first wrong byte, said of the right lines of any notation.
use Rattle.std.specs.Prelude.{ℕ, suc, ◌≤◌, ◌<◌, List, ◌++◌, length, take}

-- w begins a right line
pub record Begins (Right : List ℕ → Type 0) (w : List ℕ) : Type 0 where
  pub rest : List ℕ
  pub right : Right (w ++ rest)

-- the first index of s such that no right line begins with the bytes up to it and with it, or s's length if it ends too soon
pub record FirstWrong (Right : List ℕ → Type 0) (s : List ℕ) (q : ℕ) : Type 0 where
  pub within : q ≤ length s
  pub before : Begins Right (take q s)
  pub wrong : q < length s → Begins Right (take (suc q) s) → ⊥
