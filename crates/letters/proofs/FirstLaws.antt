-- Laws of the first element with a property, whatever the property. Assumes nothing.
use mathlib.Core.Path.{◌≡◌, refl, sym, ap}
use mathlib.Core.Bool.{Bool, true, false, cond}
use borrow.Author.Tests.{ltb-false}
use lib.Dec.{ltb}
use mathlib.Core.List.{List, [], ◌∷◌, ◌++◌}
use Prim.Native.Nat.{ℕ, zero, suc, ◌+◌, ◌≤◌, ◌<◌}
use native.Mathlib.Omega.{arith}
use lib.ListN.{length, get_or}
use Rattle.std.proofs.lemmas.Grind.{common_steps}
use Rattle.std.proofs.lemmas.List.Folds.{prefix_len-append}
use Rattle.std.proofs.lemmas.List.Recursion.{is_position_or_len}
use Rattle.std.proofs.lemmas.List.Sums.{passes_at_first, position_or_len_is, prefix_len-le-length}
use Rattle.std.specs.List.{position, position_or_len}
use Rattle.std.specs.Option.{unwrap_or}
use Rattle.letters.specs.First.{first_with}
use Rattle.letters.proofs.Truth.{bool_cases}

module _ (b : ℕ → Bool) where
  -- it is the library's
  pub first_position : (s : List ℕ) → first_with b s ≡ position_or_len b s
  unfolding first_with
  first_position = is_position_or_len (first_with b) b refl (λ x xs. ap (cond (b x) 0) (one (first_with b xs)))
    where
      one : (n : ℕ) → suc n ≡ 1 + n
      one n = omega arith

  pub first_le : (s : List ℕ) → first_with b s ≤ length s
  first_le s = rw first_position (prefix_len-le-length _ s)

  -- what is found has the property
  pub first_has : (s : List ℕ) → first_with b s < length s → b (get_or s (first_with b s) 0) ≡ true
  first_has s h = rw first_position (passes_at_first b s 0 (rw first_position at h))

  -- one that has it is not passed over
  pub first_some : (s : List ℕ) (j : ℕ) → j < length s → b (get_or s j 0) ≡ true → first_with b s < length s
  unfolding first_with
  first_some [] j l e = absurd (omega arith)
  first_some (x ∷ s) zero l e = rw e (omega arith)
  first_some (x ∷ s) (suc j) l e =
      bool_cases (b x) (λ y. rw y (omega arith)) (λ n. rw n (omega (arith, first_some s j (omega arith) e)))

  pub first_none : (s : List ℕ) → ((j : ℕ) → j < length s → b (get_or s j 0) ≡ false) → length s ≤ first_with b s
  first_none s h = omega (arith, first_position s, position_or_len_is b s (length s) 0 (omega arith) h (λ l. absurd (omega arith)))

  -- where none is found, none has it
  pub first_all : (s : List ℕ) → length s ≤ first_with b s → (j : ℕ) → j < length s → b (get_or s j 0) ≡ false
  first_all s h j l = bool_cases (b (get_or s j 0)) (λ y. absurd (omega (arith, first_some s j l y))) (λ n. n)

  -- in front of other elements, and after them
  pub first_append_in : (s t : List ℕ) → first_with b s < length s → first_with b (s ++ t) ≡ first_with b s
  first_append_in s t h = grind (arith, common_steps, first_position, prefix_len-append)

  pub first_append_out : (s t : List ℕ) → length s ≤ first_with b s → first_with b (s ++ t) ≡ length s + first_with b t
  first_append_out s t h = let l = first_le s in grind (arith, common_steps, first_position, prefix_len-append)

  -- `position`, with the length where there is none
  pub found_first : (s : List ℕ) → unwrap_or (position b s) (length s) ≡ first_with b s
  found_first s = let l : position_or_len b s ≤ length s = rw (sym (first_position s)) (first_le s) in
      bool_cases (ltb (position_or_len b s) (length s))
      (λ y. rw (y, first_position s))
      (λ n. let e : length s ≡ position_or_len b s = omega (arith, ltb-false _ _ n, l) in rw (n, first_position s, e))
