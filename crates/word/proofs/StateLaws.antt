-- What a state means, over any representation of its digits: where it was cleared, and after one step. Assumes nothing.
--
-- A representation shows three things, and has then the meaning: its digits are 0 where it is cleared (`cleared`); its step is `Stepped`; and the mask of its step is `Marks`.
-- One number is such a representation (WordLaws). A state of several words would be another, with the digit at j read from word j / 64 at j % 64.
use mathlib.Core.Path.{◌≡◌, refl, sym, ap, ◌∙◌}
use mathlib.Core.Bool.{Bool, true, false, ◌&&◌}
use mathlib.Core.List.{List}
use Prim.Native.Nat.{ℕ, zero, suc, ◌+◌, ◌-◌, ◌≤◌, ◌<◌, min}
use native.Mathlib.Omega.{arith}
use borrow.Author.Tests.{leb-true, leb-false, le-leb, lt-leb}
use lib.Dec.{leb}
use lib.ListN.{get_or}
use Rattle.letters.specs.Letters.{meets}
use Rattle.letters.proofs.Truth.{bool_cases, and_true_l, and_true_r}
use Rattle.hits.specs.Hits.{met}
use Rattle.hits.specs.Counts.{tally}
use Rattle.hits.proofs.MetLaws.{met_last, met_none}
use Rattle.word.specs.State.{Stepped, alive, Means, Marks}

tally_both : (x y : Bool) → min (tally x) (tally y) ≡ tally (x && y)
tally_both true true = refl
tally_both true false = refl
tally_both false true = refl
tally_both false false = refl

tally_one : (x : Bool) → tally x ≡ 1 → x ≡ true
tally_one true e = refl
tally_one false e = absurd (omega arith)

module _ (P T : List ℕ) (a : ℕ) where
  -- nothing is alive where nothing was read
  alive_none : (j : ℕ) → alive P T a a j ≡ false
  unfolding alive
  alive_none j = ap (λ (b : Bool). b && met P T (a - suc j) 0 (suc j)) (lt-leb (a + suc j) a (omega arith))

  -- one letter more: the first letter begins a stretch, and each other letter carries one on
  alive_first : (e : ℕ) → a ≤ e → alive P T a (suc e) 0 ≡ meets (get_or P 0 0) (get_or T e 0)
  unfolding alive
  alive_first e l =
      let z : suc e - 1 + 0 ≡ e = omega arith in
      rw (le-leb (a + 1) (suc e) (omega arith), met_last P T (suc e - 1) 0, met_none P T (suc e - 1) 0, z)

  alive_next : (e j : ℕ) → alive P T a (suc e) (suc j) ≡ (alive P T a e j && meets (get_or P (suc j) 0) (get_or T e 0))
  unfolding alive
  alive_next e j =
      bool_cases (leb (a + suc j) e)
      (λ y. let l : a + suc j ≤ e = leb-true _ _ y in
      let u : suc e - suc (suc j) ≡ e - suc j = omega arith in
      let z : e - suc j + suc j ≡ e = omega arith in
      rw (y, le-leb (a + suc (suc j)) (suc e) (omega arith), u, met_last P T (e - suc j) (suc j), z))
      (λ n. let l : e < a + suc j = leb-false _ _ n in
      rw (n, lt-leb (a + suc (suc j)) (suc e) (omega arith)))

  -- a cleared state
  pub cleared : (D : ℕ → ℕ) → ((j : ℕ) → D j ≡ 0) → Means P T a a D
  cleared D z j = z j ∙ ap tally (sym (alive_none j))

  -- one step at the text letter that stands at e
  pub step_means : (e : ℕ) (D M D' : ℕ → ℕ) → a ≤ e → Means P T a e D → Marks P (get_or T e 0) M → Stepped D M D' → Means P T a (suc e) D'
  step_means e D M D' l d m s zero = s 0 ∙ rw (m 0, alive_first e l) (tally_both true (meets (get_or P 0 0) (get_or T e 0)))
  step_means e D M D' l d m s (suc j) =
      s (suc j) ∙ rw (d j, m (suc j), alive_next e j) (tally_both (alive P T a e j) (meets (get_or P (suc j) 0) (get_or T e 0)))

  -- the meaning in full: digit j is set exactly if some stretch that began at or after a and ends before e meets the first j + 1 letters
  module _ (e : ℕ) (D : ℕ → ℕ) (d : Means P T a e D) (j : ℕ) where
    pub set_began : D j ≡ 1 → (s : ℕ) × (a ≤ s) × (s + suc j ≡ e) × (met P T s 0 (suc j) ≡ true)
    unfolding alive
    set_began h =
        let y : alive P T a e j ≡ true = tally_one (alive P T a e j) (sym (d j) ∙ h) in
        let l : a + suc j ≤ e = leb-true _ _ (and_true_l (leb (a + suc j) e) _ y) in
        (e - suc j, omega arith, omega arith, and_true_r (leb (a + suc j) e) _ y)

    pub began_set : (s : ℕ) → a ≤ s → s + suc j ≡ e → met P T s 0 (suc j) ≡ true → D j ≡ 1
    unfolding alive
    began_set s l z y =
        let u : e - suc j ≡ s = omega arith in
        d j ∙ rw (le-leb (a + suc j) e (omega arith), u, y)
