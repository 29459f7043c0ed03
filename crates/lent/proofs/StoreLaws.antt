-- Elements stored one after another from a place of lent memory on. Assumes nothing.
use mathlib.Core.Path.{◌≡◌, refl, sym, ap, ap₂, ◌∙◌, subst}
use mathlib.Core.List.{List, [], ◌∷◌, ◌++◌, append_assoc, append-nil}
use Prim.Native.Nat.{ℕ, suc, ◌+◌, ◌≤◌}
use native.Mathlib.Nat.{add-zero}
use native.Mathlib.Omega.{arith}
use lib.ListN.{length, set, length-append}
use lib.Seq.{sets, length-sets}

-- bytes stored after bytes
pub sets_append : (l : List ℕ) (i : ℕ) (vs ws : List ℕ) → sets l i (vs ++ ws) ≡ sets (sets l i vs) (i + length vs) ws
sets_append l i [] ws = ap (λ (j : ℕ). sets l j ws) (sym (add-zero i))
sets_append l i (a ∷ vs) ws = sets_append (set l i a) (suc i) vs ws ∙ ap (λ (j : ℕ). sets (sets (set l i a) (suc i) vs) j ws) (let q : suc i + length vs ≡ i + suc (length vs) = omega arith in q)

-- the same, by what is known of each
pub sets_on : (l m n : List ℕ) (i j : ℕ) (vs ws : List ℕ) → m ≡ sets l i vs → j ≡ i + length vs → n ≡ sets m j ws → n ≡ sets l i (vs ++ ws)
sets_on l m n i j vs ws em ej en = en ∙ ap₂ (λ (x : List ℕ) (y : ℕ). sets x y ws) em ej ∙ sym (sets_append l i vs ws)

-- `past` are the bytes written so far of `all`, of which `left` are left
pub record Storing (d : List ℕ) (at : ℕ) (all left : List ℕ) (list : List ℕ) (e : ℕ) : Type 0 where
  pub past : List ℕ
  pub whole : all ≡ past ++ left
  pub place : e ≡ at + length past
  pub lists : list ≡ sets d at past

module _ (d : List ℕ) (at : ℕ) (all : List ℕ) where
  pub so_none : Storing d at all all d at
  so_none = record { past = []; whole = refl; place = omega arith; lists = refl }

  module _ (left list : List ℕ) (e : ℕ) (w : Storing d at all left list e) where
    pub so_kept : length list ≡ length d
    so_kept = ap length w.lists ∙ length-sets d at w.past

    -- what is left fits
    pub so_room : at + length all ≤ length d → e + length left ≤ length list
    so_room h = omega (arith, w.place, ap length w.whole, length-append w.past left, so_kept)

    -- more bytes are written
    pub so_on : (vs rest list' : List ℕ) (e' : ℕ) → left ≡ vs ++ rest → list' ≡ sets list e vs → e' ≡ e + length vs → Storing d at all rest list' e'
    so_on vs rest list' e' q l p = record {
      past = w.past ++ vs;
      whole = w.whole ∙ ap (λ (xs : List ℕ). w.past ++ xs) q ∙ sym (append_assoc w.past vs rest);
      place = omega (arith, w.place, length-append w.past vs);
      lists = sets_on d list list' at e w.past vs w.lists w.place l;
    }

    pub so_same : (rest : List ℕ) → left ≡ rest → Storing d at all rest list e
    so_same rest q = subst (λ (xs : List ℕ). Storing d at all xs list e) q w

  pub so_end : (left list : List ℕ) (e : ℕ) → left ≡ [] → Storing d at all left list e → (e ≡ at + length all) × (list ≡ sets d at all)
  so_end left list e z w =
      let q : all ≡ w.past = w.whole ∙ ap (λ (xs : List ℕ). w.past ++ xs) z ∙ append-nil w.past in
      (omega (arith, w.place, ap length q), w.lists ∙ ap (sets d at) (sym q))

-- the next bytes fit
pub so_fits : (d : List ℕ) (at : ℕ) (all left list : List ℕ) (e : ℕ) (vs rest : List ℕ) → Storing d at all left list e → at + length all ≤ length d → left ≡ vs ++ rest → e + length vs ≤ length list
so_fits d at all left list e vs rest w h q = omega (arith, so_room d at all left list e w h, ap length q, length-append vs rest)

-- bytes put one after another: the next ones fit, and are written; and the last ones
module _ {d : List ℕ} {at : ℕ} {all list : List ℕ} {e : ℕ} (vs : List ℕ) where
  pub so_front : (rest : List ℕ) → Storing d at all (vs ++ rest) list e → at + length all ≤ length d → e + length vs ≤ length list
  so_front rest w h = so_fits d at all (vs ++ rest) list e vs rest w h refl

  pub so_next : {list' : List ℕ} {e' : ℕ} (rest : List ℕ) → Storing d at all (vs ++ rest) list e → list' ≡ sets list e vs → e' ≡ e + length vs → Storing d at all rest list' e'
  so_next {list'} {e'} rest w q p = so_on d at all (vs ++ rest) list e w vs rest list' e' refl q p

  pub so_back : Storing d at all vs list e → at + length all ≤ length d → e + length vs ≤ length list
  so_back w h = so_fits d at all vs list e vs [] w h (sym (append-nil vs))

  pub so_last : {list' : List ℕ} {e' : ℕ} → Storing d at all vs list e → list' ≡ sets list e vs → e' ≡ e + length vs → (e' ≡ at + length all) × (list' ≡ sets d at all)
  so_last {list'} {e'} w q p = so_end d at all [] list' e' refl (so_on d at all vs list e w vs [] list' e' (sym (append-nil vs)) q p)
