-- What is put at a place of lent memory, one piece after another: two puts are one put of both. Assumes nothing.
use Prim.Native.Nat.{ℕ, ◌+◌, ◌≤◌}
use mathlib.Core.Path.{◌≡◌, ap}
use mathlib.Core.List.{List, ◌++◌}
use native.Mathlib.Omega.{arith}
use lib.ListN.{length, length-append}
use lib.Seq.{sets, length-sets}
use Rattle.lent.proofs.StoreLaws.{sets_on}

-- what each function that puts promises: vs stand in l from i on, which makes m of it, and j is the place after them
abbrev pub Put : List ℕ → ℕ → List ℕ → List ℕ → ℕ → Type 0
Put l i vs m j = (j ≡ i + length vs) × (m ≡ sets l i vs)

-- the first of two pieces fits where both do
pub put_first : (i n : ℕ) (vs ws : List ℕ) → i + length (vs ++ ws) ≤ n → i + length vs ≤ n
put_first i n vs ws h = omega (arith, h, length-append vs ws)

module _ (l : List ℕ) (i : ℕ) {m : List ℕ} {j : ℕ} (vs ws : List ℕ) where
  -- the second one too
  pub put_room : Put l i vs m j → i + length (vs ++ ws) ≤ length l → j + length ws ≤ length m
  put_room p h = omega (arith, h, p.0, ap length p.1, length-sets l i vs, length-append vs ws)

  pub put_both : {n : List ℕ} {k : ℕ} → Put l i vs m j → Put m j ws n k → Put l i (vs ++ ws) n k
  put_both {n} {k} p q = (omega (arith, p.0, q.0, length-append vs ws), sets_on l m n i j vs ws p.1 p.0 q.1)
