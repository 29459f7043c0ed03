-- The reader of a bracket, byte by byte, over a whole sheet. Assumes nothing.
use mathlib.Core.Path.{◌≡◌, refl, sym, ap, ◌∙◌}
use mathlib.Core.Bool.{true, false, ◌&&◌, ◌||◌}
use mathlib.Core.List.{List}
use Prim.Native.Nat.{ℕ, suc, ◌+◌, ◌^◌, ◌≤◌, ◌<◌}
use native.Mathlib.Nat.{pow-suc}
use native.Mathlib.Numerals.{add-one}
use native.Mathlib.Omega.{arith}
use borrow.Author.Tests.{eq-eqb, ne_eqb, le-leb, lt-leb, leb-true, ltb-true}
use lib.Dec.{leb, ltb}
use lib.ListN.{length, drop, get_or}
use lib.Pow.{pow_mono}
use lib.Seq.{drop-cons, drop-length}
use Rattle.notation.specs.Alphabet.{find, wrong_at}
use Rattle.notation.specs.Reader.{may_follow, Inner, wrong_byte, closed, on, inner}
use Rattle.notation.specs.Answers.{leave, bracket_from}
use Rattle.std.proofs.Common.{Ok}
use Rattle.letters.proofs.Truth.{and_true_l, and_true_r}

pub record Follows (k t n j : ℕ) : Type 0 where
  pub inside : j < k
  pub above : t ≤ j
  pub part : suc n < k

pub follows : (k t n j : ℕ) → may_follow k t n j ≡ true → Follows k t n j
unfolding may_follow
follows k t n j f =
    let f3 = and_true_l (ltb j k && leb t j && ltb (suc n) k) (leb 1 n || ltb (suc j) k) f in
    let f2 = and_true_l (ltb j k && leb t j) (ltb (suc n) k) f3 in
    record {
      inside = ltb-true j k (and_true_l (ltb j k) (leb t j) f2);
      above = leb-true t j (and_true_r (ltb j k) (leb t j) f2);
      part = ltb-true (suc n) k (and_true_r (ltb j k && leb t j) (ltb (suc n) k) f3);
    }

module _ (A s : List ℕ) (S t n at : ℕ) where
  pub bracket_end : at ≡ length s → bracket_from A S t n at (drop at s) ≡ wrong_at at
  unfolding bracket_from
  bracket_end e = ap (λ (i : ℕ). bracket_from A S t n at (drop i s)) e ∙ rw (drop-length s)

  module _ (h : at < length s) where
    pub bracket_by : (m : Inner) → inner A S t n (get_or s at 0) ≡ m → bracket_from A S t n at (drop at s) ≡ leave S m at (λ S' t' n'. bracket_from A S' t' n' (suc at) (drop (suc at) s))
    unfolding bracket_from
    bracket_by m e = rw (drop-cons s at 0 h, e)

-- a bracket from the place from on, read up to the place at: its members so far, all below `above`, and what is left
pub record InBracket (A s : List ℕ) (from at set above count : ℕ) : Type 0 where
  pub within : at ≤ length s
  pub fits : set < 2 ^ above
  pub below : above ≤ length A
  pub part : count < length A
  pub ahead : bracket_from A 0 0 0 from (drop from s) ≡ bracket_from A set above count at (drop at s)

pub bracket_start : (A s : List ℕ) (from : ℕ) → 0 < length A → from ≤ length s → InBracket A s from from 0 0 0
bracket_start A s from p l = record { within = l; fits = omega arith; below = omega arith; part = p; ahead = refl }

module _ {A s : List ℕ} {from at set above count : ℕ} (w : InBracket A s from at set above count) where
  pub bracket_short : length s ≤ at → wrong_at (length s) ≡ bracket_from A 0 0 0 from (drop from s)
  bracket_short h =
      let e : at ≡ length s = omega (arith, w.within) in
      sym (w.ahead ∙ bracket_end A s set above count at e ∙ ap wrong_at e)

  module _ (h : at < length s) where
    by : (m : Inner) → inner A set above count (get_or s at 0) ≡ m → bracket_from A 0 0 0 from (drop from s) ≡ leave set m at (λ S' t' n'. bracket_from A S' t' n' (suc at) (drop (suc at) s))
    by m e = w.ahead ∙ bracket_by A s set above count at h m e

    pub bracket_closed : get_or s at 0 ≡ 93 → 2 ≤ count → Ok (set, at + 1) ≡ bracket_from A 0 0 0 from (drop from s)
    unfolding inner
    bracket_closed e l = ap (λ (e : ℕ). Ok (set, e)) (add-one at) ∙ sym (by closed (rw (eq-eqb (get_or s at 0) 93 e, le-leb 2 count l)))

    pub bracket_few : get_or s at 0 ≡ 93 → count < 2 → wrong_at at ≡ bracket_from A 0 0 0 from (drop from s)
    unfolding inner
    bracket_few e l = sym (by wrong_byte (rw (eq-eqb (get_or s at 0) 93 e, lt-leb 2 count l)))

    -- a byte with the number j among k that is no closer
    module _ (n : get_or s at 0 ≡ 93 → ⊥) {k j : ℕ} (z : k ≡ length A) (q : j ≡ find A (get_or s at 0)) where
      pub bracket_not : may_follow k above count j ≡ false → wrong_at at ≡ bracket_from A 0 0 0 from (drop from s)
      unfolding inner
      bracket_not f = sym (by wrong_byte (rw (ne_eqb (get_or s at 0) 93 n, ← q, ← z, f)))

      pub bracket_on : may_follow k above count j ≡ true → (x : ℕ) → x ≡ 2 ^ j → InBracket A s from (at + 1) (set + x) (j + 1) (count + 1)
      unfolding inner
      bracket_on f x e =
          let m = follows k above count j f in
          let p = pow_mono m.above in
          record {
            within = omega arith;
            fits = rw (add-one j) (omega (arith, pow-suc 2 j, w.fits));
            below = omega (arith, m.inside);
            part = omega (arith, m.part);
            ahead = by (on (set + x) (suc j) (suc count)) (rw (ne_eqb (get_or s at 0) 93 n, ← q, ← z, f, e)) ∙ rw (add-one j, add-one count, add-one at);
          }
