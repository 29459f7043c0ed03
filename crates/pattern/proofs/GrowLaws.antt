-- A table with an entry for each base letter, as it grows letter by letter: a loop over a letter's members changes their entries. Assumes nothing.
use mathlib.Core.Path.{◌≡◌, refl, sym, ap, ◌∙◌}
use mathlib.Core.Bool.{cond}
use mathlib.Core.List.{List, [], ◌∷◌}
use mathlib.Core.Logic.{⊎_elim}
use Prim.Native.Nat.{ℕ, zero, suc, ◌+◌, ◌≤◌, ◌<◌}
use native.Mathlib.Nat.{eq-or-lt_of_le}
use native.Mathlib.Omega.{arith}
use lib.ListN.{length, get_or, set, length-set, replicate, length-replicate, get_or-replicate}
use lib.Seq.{get_or-set_same, get_or-set_other}
use Rattle.letters.specs.Letters.{member}
use Rattle.letters.specs.Members.{members_from, members, walked}
use Rattle.letters.proofs.Truth.{bool_cases}
use Rattle.lent.specs.Table.{table}
use Rattle.lent.proofs.TableLaws.{is_table}

abbrev change : (ℕ → ℕ) → List ℕ → ℕ → List ℕ
change g tab b = set tab b (g (get_or tab b 0))

module _ (g : ℕ → ℕ) where
  change_length : (bs tab : List ℕ) → length (walked (change g) tab bs) ≡ length tab
  unfolding walked
  change_length [] tab = refl
  change_length (b ∷ bs) tab = change_length bs (change g tab b) ∙ length-set tab b (g (get_or tab b 0))

  module _ (c b : ℕ) where
    -- an entry that the loop has passed stays
    passed : (a f : ℕ) (tab : List ℕ) → b < a → get_or (walked (change g) tab (members_from c a f)) b 0 ≡ get_or tab b 0
    unfolding walked members_from
    passed a zero tab l = refl
    passed a (suc f) tab l =
        bool_cases (member a c)
        (λ y. rw y (passed (suc a) f (change g tab a) (omega arith) ∙ get_or-set_other tab a b (g (get_or tab a 0)) 0 (λ z. omega arith)))
        (λ n. rw n (passed (suc a) f tab (omega arith)))

    -- one that lies ahead is changed if it is a member's
    ahead : (a f : ℕ) (tab : List ℕ) → a ≤ b → b < a + f → b < length tab
        → get_or (walked (change g) tab (members_from c a f)) b 0 ≡ cond (member b c) (g (get_or tab b 0)) (get_or tab b 0)
    unfolding walked members_from
    ahead a zero tab l k r = absurd (omega arith)
    ahead a (suc f) tab l k r =
        ⊎_elim
        (λ (q : a ≡ b). rw q
        (bool_cases (member b c)
        (λ y. rw y (passed (suc b) f (change g tab b) (omega arith) ∙ get_or-set_same tab b (g (get_or tab b 0)) 0 r))
        (λ n. rw n (passed (suc b) f tab (omega arith)))))
        (λ (q : a < b).
        bool_cases (member a c)
        (λ y. let s = get_or-set_other tab a b (g (get_or tab a 0)) 0 (λ z. omega arith) in
        rw y (ahead (suc a) f (change g tab a) q (omega arith) (omega (arith, length-set tab a (g (get_or tab a 0)))) ∙ rw s))
        (λ n. rw n (ahead (suc a) f tab q (omega arith) r)))
        (eq-or-lt_of_le l)

-- the table after h letters: F b h at each base letter b
pub record Grown (K : ℕ) (F : ℕ → ℕ → ℕ) (h : ℕ) (tab : List ℕ) : Type 0 where
  pub long : length tab ≡ K
  pub right : (b : ℕ) → b < K → get_or tab b 0 ≡ F b h

pub grown_start : (K : ℕ) (F : ℕ → ℕ → ℕ) → ((b : ℕ) → F b 0 ≡ 0) → Grown K F 0 (replicate K 0)
grown_start K F z = record { long = length-replicate K 0; right = λ b l. get_or-replicate K b 0 0 l ∙ sym (z b) }

module _ {K : ℕ} {F : ℕ → ℕ → ℕ} {h : ℕ} {tab : List ℕ} (w : Grown K F h tab) where
  -- one letter more: its members' entries are changed
  pub grown_on : (g : ℕ → ℕ) (c : ℕ) (new : List ℕ) → ((b : ℕ) → F b (h + 1) ≡ cond (member b c) (g (F b h)) (F b h))
      → new ≡ walked (λ x b. set x b (g (get_or x b 0))) tab (members K c) → Grown K F (h + 1) new
  unfolding members
  grown_on g c new step e =
      record {
        long = ap length e ∙ change_length g (members K c) tab ∙ w.long;
        right = λ b l.
            ap (λ (x : List ℕ). get_or x b 0) e
            ∙ ahead g c b 0 K tab (omega arith) (omega arith) (omega (arith, w.long))
            ∙ rw (w.right b l, step b);
      }

  pub grown_end : (n : ℕ) → h ≡ n → tab ≡ table K (λ b. F b n)
  grown_end n e = is_table K (λ b. F b n) tab w.long (λ b l. w.right b l ∙ ap (F b) e)
