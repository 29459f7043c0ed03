-- Laws of tables: by their entries, and as they are written over the front of lent memory, entry by entry. Assumes nothing.
use mathlib.Core.Path.{◌≡◌, refl, sym, ap, ◌∙◌}
use mathlib.Core.List.{List, [], ◌∷◌, ◌++◌}
use Prim.Native.Nat.{ℕ, zero, suc, ◌+◌, ◌<◌}
use native.Mathlib.Nat.{zero-add}
use native.Mathlib.Numerals.{add-one}
use native.Mathlib.Omega.{arith}
use lib.ListN.{length, get_or, set}
use lib.Seq.{ext_get_or}
use Rattle.lent.specs.Over.{over}
use Rattle.lent.specs.Table.{table_from, table}
use Rattle.lent.proofs.OverLaws.{over_snoc}

module _ (f : ℕ → ℕ) where
  from_length : (a n : ℕ) → length (table_from a n f) ≡ n
  unfolding table_from
  from_length a zero = refl
  from_length a (suc n) = ap suc (from_length (suc a) n)

  from_at : (a n b : ℕ) → b < n → get_or (table_from a n f) b 0 ≡ f (a + b)
  unfolding table_from
  from_at a zero b l = absurd (omega arith)
  from_at a (suc n) zero l = let z : a + 0 ≡ a = omega arith in rw z
  from_at a (suc n) (suc b) l = let z : a + suc b ≡ suc a + b = omega arith in rw z (from_at (suc a) n b (omega arith))

  from_snoc : (a n : ℕ) → table_from a (suc n) f ≡ table_from a n f ++ (f (a + n) ∷ [])
  unfolding table_from
  from_snoc a zero = let z : a + 0 ≡ a = omega arith in rw z
  from_snoc a (suc n) = let z : a + suc n ≡ suc a + n = omega arith in rw z (ap (λ (ys : List ℕ). f a ∷ ys) (from_snoc (suc a) n))

  pub length_table : (n : ℕ) → length (table n f) ≡ n
  unfolding table
  length_table n = from_length 0 n

  pub at_table : (n b : ℕ) → b < n → get_or (table n f) b 0 ≡ f b
  unfolding table
  at_table n b l = let z : 0 + b ≡ b = omega arith in from_at 0 n b l ∙ ap f z

  -- one entry more
  pub table_snoc : (n : ℕ) → table (suc n) f ≡ table n f ++ (f n ∷ [])
  unfolding table
  table_snoc n = rw (zero-add n) at (from_snoc 0 n)

pub is_table : (n : ℕ) (f : ℕ → ℕ) (l : List ℕ) → length l ≡ n → ((b : ℕ) → b < n → get_or l b 0 ≡ f b) → l ≡ table n f
is_table n f l e h = ext_get_or 0 l (table n f) (e ∙ sym (length_table f n)) (λ b k. h b (omega arith) ∙ sym (at_table f n b (omega arith)))

pub same_table : (n : ℕ) (f g : ℕ → ℕ) → ((b : ℕ) → b < n → f b ≡ g b) → table n f ≡ table n g
same_table n f g h = is_table n g (table n f) (length_table f n) (λ b l. at_table f n b l ∙ h b l)

-- the memory d once the first i entries were written
module _ (f : ℕ → ℕ) (d : List ℕ) where
  abbrev pub tabled : ℕ → List ℕ
  tabled i = over (table i f) d

  pub tabled_next : (i : ℕ) → tabled (i + 1) ≡ set (tabled i) i (f i)
  tabled_next i =
      rw (add-one i, table_snoc f i)
      (over_snoc (table i f) (f i) d ∙ ap (λ (j : ℕ). set (over (table i f) d) j (f i)) (length_table f i))
