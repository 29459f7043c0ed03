-- Writing what a rule makes of each element over the front of lent memory. Assumes nothing.
use mathlib.Core.Path.{◌≡◌, ap, ◌∙◌}
use mathlib.Core.List.{List, [], ◌∷◌, map, map-append}
use Prim.Native.Nat.{ℕ, ◌+◌, ◌<◌}
use native.Mathlib.Numerals.{add-one}
use native.Mathlib.Omega.{arith}
use lib.ListN.{length, take, get_or, set, length-map}
use lib.Seq.{take-suc, take-length, length-take-le}
use Rattle.lent.specs.Over.{over}
use Rattle.lent.proofs.OverLaws.{over_snoc}

-- the memory d once the first i elements of xs were written, each as f makes it
abbrev pub written : (ℕ → ℕ) → List ℕ → List ℕ → ℕ → List ℕ
written f xs d i = over (map f (take i xs)) d

module _ (f : ℕ → ℕ) (xs d : List ℕ) where
  pub written_next : (i : ℕ) → i < length xs → written f xs d (i + 1) ≡ set (written f xs d i) i (f (get_or xs i 0))
  written_next i h =
      let l : length (map f (take i xs)) ≡ i = length-map (take i xs) f ∙ length-take-le i xs (omega arith) in
      rw (add-one i, take-suc xs i 0 h)
      (ap (λ (ys : List ℕ). over ys d) (map-append f (take i xs) (get_or xs i 0 ∷ []))
      ∙ over_snoc (map f (take i xs)) (f (get_or xs i 0)) d
      ∙ ap (λ (j : ℕ). set (over (map f (take i xs)) d) j (f (get_or xs i 0))) l)

  pub written_all : written f xs d (length xs) ≡ over (map f xs) d
  written_all = ap (λ (ys : List ℕ). over (map f ys) d) (take-length xs)
