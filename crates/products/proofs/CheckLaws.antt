-- The checks: which of them decides, and what a call that passed them may rely on. Assumes nothing.
use mathlib.Core.Path.{◌≡◌, ap, ◌∙◌}
use mathlib.Core.Bool.{Bool, true, false}
use mathlib.Core.List.{List, map}
use Prim.Native.Nat.{ℕ, ◌≤◌, ◌<◌}
use native.Mathlib.Nat.{lt_of_lt_of_le}
use borrow.Author.Tests.{le-ltb, ltb-false, not-false}
use lib.Dec.{ltb}
use lib.ListN.{length, get_or, length-map}
use lib.Pow.{pow_mono}
use Rattle.letters.specs.First.{first_with}
use Rattle.letters.specs.Sizes.{outside, Below}
use Rattle.letters.proofs.FirstLaws.{first_all, first_none}
use Rattle.std.specs.Prelude.{Ok, Err}
use Rattle.inputs.specs.Refusals.{Check, bad, refuse, both}
use Rattle.inputs.specs.declared.refusal.Kind.{Kind}
use Rattle.inputs.specs.declared.refusal.Kind.TheVariants.{AlphabetSize, TextLength, TextLetter, ProductAlphabet, NoProduct}
use Rattle.inputs.specs.declared.refusal.Refusal.{Refusal}
use Rattle.inputs.proofs.BadLaws.{good_small}
use Rattle.inputs.proofs.CheckLaws.{passed_by, passed_on, refuse_both, both_passed, both_refused}
use Rattle.products.specs.Primes.{is_product, other}
use Rattle.products.specs.Conversions.{alphabet_then, sizes_then, elements, convert_verdict, to_verdict, from_verdict, Right}
use Rattle.products.specs.Meetings.{pair_verdict}

-- ---- checks 1 and 6; and 3
module _ (L K k : ℕ) where
  -- they decide, or those that are left
  pub alphabet_both : (rest : Check) → alphabet_then L K k rest ≡ both (alphabet_then L K k (Ok tt)) rest
  unfolding alphabet_then
  alphabet_both rest = ap (refuse (outside 1 L k) AlphabetSize 0) (refuse_both (ltb K k) ProductAlphabet 0 (Ok tt) rest) ∙ refuse_both (outside 1 L k) AlphabetSize 0 (refuse (ltb K k) ProductAlphabet 0 (Ok tt)) rest

  pub alphabet_on : (rest : Check) → alphabet_then L K k rest ≡ Ok tt → rest ≡ Ok tt
  unfolding alphabet_then
  alphabet_on rest e = passed_on _ _ _ _ (passed_on _ _ _ _ e)

  -- an alphabet that passed is one for products
  pub alphabet_fits : (rest : Check) → alphabet_then L K k rest ≡ Ok tt → k ≤ K
  unfolding alphabet_then
  alphabet_fits rest e = ltb-false K k (passed_by _ _ _ _ (passed_on _ _ _ _ e))

  module _ (N n : ℕ) where
    pub sizes_both : (rest : Check) → sizes_then L K N k n rest ≡ both (sizes_then L K N k n (Ok tt)) rest
    unfolding sizes_then alphabet_then
    sizes_both rest =
        ap (λ (c : Check). refuse (outside 1 L k) AlphabetSize 0 (refuse (ltb K k) ProductAlphabet 0 c)) (refuse_both (ltb N n) TextLength 0 (Ok tt) rest)
        ∙ ap (refuse (outside 1 L k) AlphabetSize 0) (refuse_both (ltb K k) ProductAlphabet 0 _ rest)
        ∙ refuse_both (outside 1 L k) AlphabetSize 0 _ rest

    -- what passed them
    pub record SizesPass : Type 0 where
      pub inside : outside 1 L k ≡ false
      pub fits : k ≤ K
      pub short : n ≤ N

    pub sizes_on : (rest : Check) → sizes_then L K N k n rest ≡ Ok tt → SizesPass × (rest ≡ Ok tt)
    unfolding sizes_then alphabet_then
    sizes_on rest e =
        let e6 = passed_on _ _ _ _ e in
        let e3 = passed_on _ _ _ _ e6 in
        (record { inside = passed_by _ _ _ _ e; fits = ltb-false K k (passed_by _ _ _ _ e6); short = ltb-false N n (passed_by _ _ _ _ e3) }, passed_on _ _ _ _ e3)

-- ---- the checks of a conversion
module _ (L K N k : ℕ) (kind : Kind) (wrong : ℕ → Bool) (xs : List ℕ) (room : ℕ) where
  -- what an accepted one may rely on
  pub record Accepted : Type 0 where
    pub sizes : SizesPass L K k N (length xs)
    pub right : (i : ℕ) → i < length xs → wrong (get_or xs i 0) ≡ false
    pub roomy : length xs ≤ room

  -- past the checks of sizes the elements decide
  pub sizes_pass : sizes_then L K N k (length xs) (Ok tt) ≡ Ok tt → convert_verdict L K N k kind wrong xs room ≡ elements kind (first_with wrong xs) (length xs) room
  unfolding convert_verdict
  sizes_pass e = sizes_both L K k N (length xs) (elements kind (first_with wrong xs) (length xs) room) ∙ both_passed _ _ e

  pub sizes_refuse : (r : Refusal) → sizes_then L K N k (length xs) (Ok tt) ≡ Err r → convert_verdict L K N k kind wrong xs room ≡ Err r
  unfolding convert_verdict
  sizes_refuse r e = sizes_both L K k N (length xs) (elements kind (first_with wrong xs) (length xs) room) ∙ both_refused _ _ _ e

  pub accepted : convert_verdict L K N k kind wrong xs room ≡ Ok tt → Accepted
  unfolding convert_verdict
  accepted e =
      let s = sizes_on L K k N (length xs) _ e in
      record {
        sizes = s.0;
        right = first_all wrong xs (ltb-false _ _ (passed_by _ _ _ _ s.1));
        roomy = ltb-false _ _ (passed_by _ _ _ _ (passed_on _ _ _ _ s.1));
      }

  -- the result is no longer than the longest string
  pub short_made : (f : ℕ → ℕ) → convert_verdict L K N k kind wrong xs room ≡ Ok tt → length (map f xs) ≤ N
  short_made f e = rw (length-map xs f) (accepted e).sizes.short

  pub accept : Accepted → convert_verdict L K N k kind wrong xs room ≡ Ok tt
  unfolding convert_verdict sizes_then alphabet_then refuse
  accept a =
      rw (a.sizes.inside, le-ltb K k a.sizes.fits, le-ltb N (length xs) a.sizes.short, le-ltb (first_with wrong xs) (length xs) (first_none wrong xs a.right), le-ltb room (length xs) a.roomy)

module _ (L K N k : ℕ) (xs : List ℕ) (room : ℕ) where
  pub to_accepted : to_verdict L K N k xs room ≡ Ok tt → Accepted L K N k TextLetter (bad true k) xs room
  unfolding to_verdict
  to_accepted e = accepted _ _ _ _ _ _ _ _ e

  pub from_accepted : from_verdict L K N k xs room ≡ Ok tt → Accepted L K N k NoProduct (other k) xs room
  unfolding from_verdict
  from_accepted e = accepted _ _ _ _ _ _ _ _ e

-- letters that are right are places of the table
pub in_table : (K : ℕ) (xs : List ℕ) → Right (bad true) K xs → Below K xs
in_table K xs r i l = lt_of_lt_of_le (good_small r.0 true (get_or xs i 0) (r.2 i l)) (pow_mono r.1)

-- ---- the checks of two products
module _ (L K k a b : ℕ) where
  -- what an accepted pair may rely on
  pub record Pair : Type 0 where
    pub fits : k ≤ K
    pub first : is_product k a ≡ true
    pub second : is_product k b ≡ true

  pub pair : pair_verdict L K k a b ≡ Ok tt → Pair
  unfolding pair_verdict other
  pair e =
      let e0 = alphabet_on L K k _ e in
      record {
        fits = alphabet_fits L K k _ e;
        first = not-false (is_product k a) (passed_by _ _ _ _ e0);
        second = not-false (is_product k b) (passed_by _ _ _ _ (passed_on _ _ _ _ e0));
      }
