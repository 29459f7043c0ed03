-- Laws of `least`. Assumes nothing.
use mathlib.Core.Path.{◌≡◌, refl, sym, ◌∙◌}
use mathlib.Core.Bool.{Bool, true, false, ◌||◌}
use mathlib.Core.Logic.{⊎_elim}
use Prim.Native.Nat.{ℕ, zero, suc, ◌+◌, ◌-◌, ◌≤◌, ◌<◌, min}
use native.Mathlib.Nat.{eq-or-lt_of_le}
use native.Mathlib.Numerals.{add-one}
use native.Mathlib.Omega.{arith}
use borrow.Author.Tests.{ltb-true, ltb-false, leb-true, leb-false}
use lib.Dec.{leb, ltb}
use Rattle.std.specs.Prelude.{Option, Some, None, MatchOption, unwrap_or}
use Rattle.letters.proofs.Truth.{bool_cases, both_ways}
use Rattle.shifts.specs.Least.{least}

module _ (b : ℕ → Bool) where
  pub least_here : (from f : ℕ) → b from ≡ true → least b from f ≡ from
  unfolding least
  least_here from zero e = refl
  least_here from (suc f) e = rw e

  pub least_on : (from f : ℕ) → b from ≡ false → least b from (suc f) ≡ least b (suc from) f
  unfolding least
  least_on from f e = rw e

  pub least_ge : (from f : ℕ) → from ≤ least b from f
  unfolding least
  least_ge from zero = omega arith
  least_ge from (suc f) = bool_cases (b from) (λ e. rw e (omega arith)) (λ e. rw e (omega (arith, least_ge (suc from) f)))

  pub least_le : (from f : ℕ) → least b from f ≤ from + f
  unfolding least
  least_le from zero = omega arith
  least_le from (suc f) = bool_cases (b from) (λ e. rw e (omega arith)) (λ e. rw e (omega (arith, least_le (suc from) f)))

  pub least_has : (from f : ℕ) → b (from + f) ≡ true → b (least b from f) ≡ true
  unfolding least
  least_has from zero e = let z : from + 0 ≡ from = omega arith in rw z at e
  least_has from (suc f) e =
      let z : from + suc f ≡ suc from + f = omega arith in
      bool_cases (b from) (λ y. rw y y) (λ n. rw n (least_has (suc from) f (rw z at e)))

  pub least_first : (from f j : ℕ) → from ≤ j → j < least b from f → b j ≡ false
  unfolding least
  least_first from zero j a l = absurd (omega arith)
  least_first from (suc f) j a l =
      bool_cases (b from)
      (λ y. let l' = rw y at l in absurd (omega arith))
      (λ n. let l' = rw n at l in ⊎_elim (λ (q : from ≡ j). rw (← q) n) (λ (q : from < j). least_first (suc from) f j q l') (eq-or-lt_of_le a))

  -- none that has the property is below it
  pub least_low : (from f s : ℕ) → from ≤ s → b s ≡ true → least b from f ≤ s
  least_low from f s l e =
      bool_cases (leb (least b from f) s)
      (λ y. leb-true _ _ y)
      (λ n. absurd (both_ways (b s) e (least_first from f s l (leb-false _ _ n))))

  -- where it is not the number after them all, it has the property
  pub least_at : (from f : ℕ) → least b from f < from + f → b (least b from f) ≡ true
  unfolding least
  least_at from zero l = absurd (omega arith)
  least_at from (suc f) l =
      bool_cases (b from) (λ y. rw y y) (λ n. let l' = rw n at l in rw n (least_at (suc from) f (omega arith)))

  -- it is the one that has the property and that none before it has
  pub least_is : (from f s : ℕ) → from ≤ s → s ≤ from + f → ((j : ℕ) → from ≤ j → j < s → b j ≡ false) → b s ≡ true → least b from f ≡ s
  least_is from zero s l k none e = let z : from ≡ s = omega arith in least_here from 0 (rw z e) ∙ z
  least_is from (suc f) s l k none e =
      ⊎_elim
      (λ (q : from ≡ s). least_here from (suc f) (rw q e) ∙ q)
      (λ (q : from < s). least_on from f (none from (omega arith) q) ∙ least_is (suc from) f s q (omega arith) (λ j u v. none j (omega arith) v) e)
      (eq-or-lt_of_le l)

-- the property matters only where it is asked
pub least_same : (b d : ℕ → Bool) (from f : ℕ) → ((s : ℕ) → from ≤ s → s < from + f → b s ≡ d s) → least b from f ≡ least d from f
unfolding least
least_same b d from zero h = refl
least_same b d from (suc f) h = rw (h from (omega arith) (omega arith), least_same b d (suc from) f (λ s u v. h s (omega arith) (omega arith)))

-- a bound on how far a search goes
pub least_cut : (b : ℕ → Bool) (i m n from f : ℕ) → from ≤ n + 1 - (m + i) → i + m ≤ n
    → least (λ (s : ℕ). ltb n (i + s + m) || b s) from f ≡ min (least b from f) (n + 1 - (m + i))
unfolding least
least_cut b i m n from zero l k = omega arith
least_cut b i m n from (suc f) l k =
    bool_cases (ltb n (i + from + m))
    (λ (e : ltb n (i + from + m) ≡ true). rw e (cut (least_ge b from (suc f)) e))
    (λ (e : ltb n (i + from + m) ≡ false). rw e (bool_cases (b from)
    (λ y. rw y (omega arith))
    (λ q. rw q (least_cut b i m n (suc from) f (on e) k))))
  where
    cut : from ≤ least b from (suc f) → ltb n (i + from + m) ≡ true → from ≡ min (least b from (suc f)) (n + 1 - (m + i))
    cut g e = omega (arith, ltb-true n (i + from + m) e)

    on : ltb n (i + from + m) ≡ false → suc from ≤ n + 1 - (m + i)
    on e = omega (arith, ltb-false n (i + from + m) e)

module _ (b : ℕ → Bool) where
  -- what does not have the property is passed over
  pub least_skip : (from f s : ℕ) → from ≤ s → s ≤ from + f → ((j : ℕ) → from ≤ j → j < s → b j ≡ false) → least b from f ≡ least b s (from + f - s)
  least_skip from zero s l k none = let z : from ≡ s = omega arith in let y : from + 0 - s ≡ 0 = omega arith in rw (y, z)
  least_skip from (suc f) s l k none =
      ⊎_elim
      (λ (q : from ≡ s). let y : from + suc f - s ≡ suc f = omega arith in rw (y, q))
      (λ (q : from < s).
      let y : from + suc f - s ≡ suc from + f - s = omega arith in
      rw y (least_on b from f (none from (omega arith) q) ∙ least_skip (suc from) f s q (omega arith) (λ j u v. none j (omega arith) v)))
      (eq-or-lt_of_le l)

  -- more room does not matter where the last has the property
  pub least_room : (from f g : ℕ) → f ≤ g → b (from + f) ≡ true → least b from g ≡ least b from f
  least_room from f g l e =
      let h = least_le b from f in
      least_is b from g (least b from f) (least_ge b from f) (omega arith) (λ j u v. least_first b from f j u v) (least_has b from f e)

  -- a loop from `from` to m that has come to x: the least is the same from there
  pub record Seeking (m from x : ℕ) : Type 0 where
    pub low : from ≤ x
    pub top : x ≤ m
    pub ahead : least b from (m - from) ≡ least b x (m - x)

  module _ {m from x : ℕ} (q : Seeking m from x) where
    pub seek_here : b x ≡ true → x ≡ least b from (m - from)
    seek_here e = sym (q.ahead ∙ least_here b x (m - x) e)

    pub seek_on : x < m → b x ≡ false → Seeking m from (x + 1)
    seek_on l e =
        let z : m - x ≡ suc (m - suc x) = omega arith in
        record { low = omega (arith, q.low); top = omega arith; ahead = q.ahead ∙ rw (z, add-one x) (least_on b x (m - suc x) e) }

    pub seek_end : m ≤ x → x ≡ least b from (m - from)
    unfolding least
    seek_end l = let z : m - x ≡ 0 = omega arith in sym (q.ahead ∙ rw z)

  -- what a search from `from` to m has found, m where that is none
  pub least_found : (m from : ℕ) (r : Option ℕ) → from ≤ m
      → MatchOption r ((j : ℕ) → from ≤ j → j < m → b j ≡ false) (λ s. (from ≤ s) × (s < m) × (b s ≡ true) × ((j : ℕ) → from ≤ j → j < s → b j ≡ false))
      → unwrap_or r m ≡ least b from (m - from)
  unfolding least
  least_found m from (Some s) l e = sym (least_is b from (m - from) s e.0 (omega arith) e.3 e.2)
  least_found m from None l e =
      let z : from + (m - from) - m ≡ 0 = omega arith in
      sym (least_skip from (m - from) m l (omega arith) e ∙ rw z)
