-- Strings that pass the checks of a search: what they are, and that such strings pass. Assumes nothing.
use mathlib.Core.Path.{◌≡◌, refl, ap}
use mathlib.Core.Bool.{Bool, true, false}
use mathlib.Core.List.{List, [], ◌∷◌}
use Prim.Native.Nat.{ℕ, zero, suc, ◌^◌, ◌≤◌, ◌<◌}
use native.Mathlib.Omega.{arith}
use borrow.Author.Tests.{ltb-false, le-ltb}
use lib.ListN.{length, get_or}
use Rattle.letters.proofs.Truth.{bool_cases}
use Rattle.letters.specs.First.{first_with}
use Rattle.letters.proofs.SizeLaws.{inside_least, inside_most, inside}
use Rattle.inputs.specs.Refusals.{bad, refuse, verdict}
use Rattle.inputs.proofs.BadLaws.{good, good_small, good_mark}
use Rattle.inputs.proofs.CheckLaws.{passed_by, passed_on}
use Rattle.std.specs.Prelude.{Ok}
use Rattle.notation.specs.Spelling.{AllProper}

-- no bad letter: all may stand there
no_bad : (marks : Bool) (k : ℕ) (xs : List ℕ) → length xs ≤ first_with (bad marks k) xs → AllProper marks k xs
unfolding first_with
no_bad marks k [] h = tt
no_bad marks k (x ∷ xs) h =
    bool_cases (bad marks k x)
    (λ e. let h' : suc (length xs) ≤ 0 = rw e at h in absurd (omega arith))
    (λ e. let h' : suc (length xs) ≤ suc (first_with (bad marks k) xs) = rw e at h in
    ((good_mark k marks x e, good_small k marks x e), no_bad marks k xs (omega arith)))

none_bad : (marks : Bool) (k : ℕ) (xs : List ℕ) → AllProper marks k xs → first_with (bad marks k) xs ≡ length xs
unfolding first_with
none_bad marks k [] l = refl
none_bad marks k (x ∷ xs) l = rw (good k marks x l.0.0 l.0.1) (ap suc (none_bad marks k xs l.1))

pub letters_below : (marks : Bool) (k : ℕ) (xs : List ℕ) → AllProper marks k xs → (i : ℕ) → i < length xs → get_or xs i 0 < 2 ^ k
letters_below marks k [] l i h = absurd (omega arith)
letters_below marks k (x ∷ xs) l zero h = l.0.1
letters_below marks k (x ∷ xs) l (suc i) h = letters_below marks k xs l.1 i (omega arith)

pub record Passing (K M N k : ℕ) (P T : List ℕ) : Type 0 where
  pub some : 0 < k
  pub few : k ≤ K
  pub long : 0 < length P
  pub short : length P ≤ M
  pub small : length T ≤ N
  pub pattern : AllProper false k P
  pub text : AllProper true k T

module _ (K M N k : ℕ) (P T : List ℕ) where
  pub passing : verdict K M N k P T ≡ Ok tt → Passing K M N k P T
  unfolding verdict
  passing e =
      let e2 = passed_on _ _ _ _ e in
      let e3 = passed_on _ _ _ _ e2 in
      let e4 = passed_on _ _ _ _ e3 in
      let e5 = passed_on _ _ _ _ e4 in
      let b1 = passed_by _ _ _ _ e in
      let b2 = passed_by _ _ _ _ e2 in
      record {
        some = inside_least 1 K k b1;
        few = inside_most 1 K k b1;
        long = inside_least 1 M (length P) b2;
        short = inside_most 1 M (length P) b2;
        small = ltb-false N (length T) (passed_by _ _ _ _ e3);
        pattern = no_bad false k P (ltb-false _ _ (passed_by _ _ _ _ e4));
        text = no_bad true k T (ltb-false _ _ (passed_by _ _ _ _ e5));
      }

  pub passes : Passing K M N k P T → verdict K M N k P T ≡ Ok tt
  unfolding verdict refuse
  passes w =
      rw (
        inside 1 K k w.some w.few,
        inside 1 M (length P) w.long w.short,
        le-ltb N (length T) w.small,
        none_bad false k P w.pattern,
        le-ltb (length P) (length P) (omega arith),
        none_bad true k T w.text,
        le-ltb (length T) (length T) (omega arith),
      )
