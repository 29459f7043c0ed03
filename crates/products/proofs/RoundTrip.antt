-- Letters to products and back gives the same letters, and products to letters and back the same products. Assumes nothing.
use mathlib.Core.Path.{◌≡◌, refl, ap, ◌∙◌, subst}
use mathlib.Core.Bool.{Bool, true, false, not}
use mathlib.Core.List.{List, [], ◌∷◌, map}
use Prim.Native.Nat.{ℕ, zero, suc, ◌≤◌, ◌<◌}
use native.Mathlib.Nat.{le_of_suc-le-suc, le_trans, lt_of_lt_of_le}
use native.Mathlib.Omega.{arith}
use borrow.Author.Tests.{not-false}
use lib.ListN.{length, get_or, take, length-map}
use lib.Pow.{pow_mono}
use Rattle.lent.specs.Over.{over}
use Rattle.lent.proofs.OverLaws.{take_over}
use Rattle.std.specs.Prelude.{Result, Ok, Err}
use Rattle.inputs.specs.Refusals.{Check, bad}
use Rattle.inputs.specs.Answers.{written_of, WrittenInto}
use Rattle.inputs.specs.declared.refusal.Kind.{Kind}
use Rattle.inputs.specs.declared.refusal.Kind.TheVariants.{TextLetter, NoProduct}
use Rattle.inputs.specs.declared.refusal.Refusal.{Refusal}
use Rattle.inputs.proofs.BadLaws.{good_small}
use Rattle.products.specs.Primes.{product_of, letter_of, other}
use Rattle.products.specs.Conversions.{to_verdict, from_verdict, ToProducts, FromProducts}
use Rattle.products.proofs.PrimeLaws.{letter_taken, letter_good, letter_again, product_again}
use Rattle.products.proofs.CheckLaws.{Accepted, accept, to_accepted, from_accepted}

-- ---- lists
element : (f : ℕ → ℕ) (xs : List ℕ) (i : ℕ) → i < length xs → get_or (map f xs) i 0 ≡ f (get_or xs i 0)
element f [] i h = absurd (omega arith)
element f (x ∷ xs) zero h = refl
element f (x ∷ xs) (suc i) h = element f xs i (le_of_suc-le-suc h)

map_back : (f g : ℕ → ℕ) (xs : List ℕ) → ((i : ℕ) → i < length xs → g (f (get_or xs i 0)) ≡ get_or xs i 0) → map g (map f xs) ≡ xs
map_back f g [] h = refl
map_back f g (x ∷ xs) h =
    let e : g (f x) ≡ x = h 0 (omega arith) in
    let t = map_back f g xs (λ i l. h (suc i) (omega arith)) in
    rw (e, t)

-- ---- any two conversions
-- what f makes of accepted elements is accepted by the other, given the room
module _ (L K N k : ℕ) (m n : Kind) (f : ℕ → ℕ) (wrong wrong' : ℕ → Bool) (xs : List ℕ) (room : ℕ) (a : Accepted L K N k m wrong xs room) where
  made : (other : ℕ) → length xs ≤ other → ((x : ℕ) → wrong x ≡ false → wrong' (f x) ≡ false) → Accepted L K N k n wrong' (map f xs) other
  made other h right =
      let l = length-map xs f in
      record {
        sizes = record { inside = a.sizes.inside; fits = a.sizes.fits; short = omega (arith, a.sizes.short) };
        right = λ i m. ap wrong' (element f xs i (omega arith)) ∙ right (get_or xs i 0) (a.right i (omega arith));
        roomy = omega arith;
      }

-- a conversion that is done was accepted, and says how many
done : (v : Check) (ys : List ℕ) (n : ℕ) → Ok n ≡ written_of v ys → (v ≡ Ok tt) × (n ≡ length ys)
done (Err r) ys n e = absurd (let z : ◌≡◌ {A = ℕ} 0 1 = cc in omega arith)
done (Ok tt) ys n e = (refl, cc)

-- what one left is given to the other, which takes it: the elements come back
module _ (v : Check) (w : List ℕ → Check) (f g : ℕ → ℕ) (xs d : List ℕ) (n : ℕ) (left e : List ℕ) (s : Result ℕ Refusal) (after : List ℕ) where
  back : WrittenInto v (map f xs) d (Ok n) left → WrittenInto (w (take n left)) (map g (take n left)) e s after
      → (v ≡ Ok tt → (length xs ≤ length d) × (w (map f xs) ≡ Ok tt) × (map g (map f xs) ≡ xs))
      → (s ≡ Ok (length xs)) × (after ≡ over xs e)
  back p q h =
      let b = done v (map f xs) n p.answers in
      let k = h b.0 in
      let l = length-map xs f in
      let front : take n left ≡ map f xs = rw (b.1, p.leaves, b.0) (take_over (map f xs) d (omega (arith, k.0))) in
      let t = subst (λ (ys : List ℕ). WrittenInto (w ys) (map g ys) e s after) front q in
      let u = subst (λ (c : Check). WrittenInto c (map g (map f xs)) e s after) k.1 t in
      (u.answers ∙ ap (λ (ys : List ℕ). Ok (length ys)) k.2, u.leaves ∙ ap (λ (ys : List ℕ). over ys e) k.2)

-- ---- these two. There are nine primes
module _ (L K N k : ℕ) (nine : K ≤ 9) where
  module _ (cs : List ℕ) (room : ℕ) (e : to_verdict L K N k cs room ≡ Ok tt) where
    pub products_accepted : (room' : ℕ) → length cs ≤ room' → from_verdict L K N k (map product_of cs) room' ≡ Ok tt
    unfolding from_verdict other
    products_accepted room' h =
        let a = to_accepted L K N k cs room e in
        accept _ _ _ _ _ _ _ _ (made L K N k TextLetter NoProduct product_of (bad true k) (other k) cs room a room' h (λ c g. ap not (letter_taken k (le_trans a.sizes.fits nine) c g)))

    pub letters_same : map letter_of (map product_of cs) ≡ cs
    letters_same =
        let a = to_accepted L K N k cs room e in
        map_back product_of letter_of cs
        (λ i m. letter_again (get_or cs i 0) (lt_of_lt_of_le (good_small k true (get_or cs i 0) (a.right i m)) (pow_mono (le_trans a.sizes.fits nine))))

  module _ (vs : List ℕ) (room : ℕ) (e : from_verdict L K N k vs room ≡ Ok tt) where
    pub letters_accepted : (room' : ℕ) → length vs ≤ room' → to_verdict L K N k (map letter_of vs) room' ≡ Ok tt
    unfolding to_verdict other
    letters_accepted room' h =
        let a = from_accepted L K N k vs room e in
        accept _ _ _ _ _ _ _ _ (made L K N k NoProduct TextLetter letter_of (other k) (bad true k) vs room a room' h (λ v g. letter_good k (le_trans a.sizes.fits nine) v (not-false _ g)))

    pub products_same : map product_of (map letter_of vs) ≡ vs
    unfolding other
    products_same =
        let a = from_accepted L K N k vs room e in
        map_back letter_of product_of vs (λ i m. product_again k (le_trans a.sizes.fits nine) (get_or vs i 0) (not-false _ (a.right i m)))

  -- ---- on the calls: what one left is given to the other, which lends room for it
  pub letters_back : (cs d : List ℕ) (n : ℕ) (left e : List ℕ) (s : Result ℕ Refusal) (after : List ℕ)
      → ToProducts L K N k cs d (Ok n) left → FromProducts L K N k (take n left) e s after → length cs ≤ length e
      → (s ≡ Ok (length cs)) × (after ≡ over cs e)
  letters_back cs d n left e s after p q h =
      back (to_verdict L K N k cs (length d)) (λ ys. from_verdict L K N k ys (length e)) product_of letter_of cs d n left e s after p q
      (λ v. ((to_accepted L K N k cs (length d) v).roomy, products_accepted cs (length d) v (length e) h, letters_same cs (length d) v))

  pub products_back : (vs d : List ℕ) (n : ℕ) (left e : List ℕ) (s : Result ℕ Refusal) (after : List ℕ)
      → FromProducts L K N k vs d (Ok n) left → ToProducts L K N k (take n left) e s after → length vs ≤ length e
      → (s ≡ Ok (length vs)) × (after ≡ over vs e)
  products_back vs d n left e s after p q h =
      back (from_verdict L K N k vs (length d)) (λ ys. to_verdict L K N k ys (length e)) letter_of product_of vs d n left e s after p q
      (λ v. ((from_accepted L K N k vs (length d) v).roomy, letters_accepted vs (length d) v (length e) h, products_same vs (length d) v))
