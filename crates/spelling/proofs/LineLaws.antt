-- Letters and lines, byte by byte as they are written, and how long they are. Assumes nothing.
use mathlib.Core.Path.{◌≡◌, sym, ap, ◌∙◌}
use mathlib.Core.Bool.{true, false}
use mathlib.Core.List.{List, [], ◌∷◌, ◌++◌, map}
use Prim.Native.Nat.{ℕ, suc, ◌+◌, ◌-◌, ◌*◌, ◌/◌, ◌^◌, ◌≤◌, ◌<◌}
use native.Mathlib.Nat.{pow-suc, mul-suc}
use native.Mathlib.Numerals.{add-one}
use native.Mathlib.Omega.{arith}
use borrow.Author.Tests.{eqb-true, eqb-false}
use lib.Arith.{lt-one}
use lib.Count.{ones, ones_in, ones_step}
use lib.Dec.{eqb}
use lib.ListN.{length, get_or, drop, length-append}
use lib.Seq.{drop-cons, drop-length}
use Rattle.letters.specs.Letters.{member}
use Rattle.letters.specs.Members.{keep, members_from, members}
use Rattle.letters.proofs.Truth.{bool_cases}
use Rattle.notation.specs.Spelling.{pick, spell, line}
use Rattle.notation.proofs.PickLaws.{parity, pick_nil, pick_odd, pick_even, length_pick}
use Rattle.notation.proofs.SpellLaws.{spell_none, spell_one, spell_all, spell_part}

-- the number of one bits is the number of members
pub ones_pick : (A : List ℕ) (c : ℕ) → c < 2 ^ length A → ones c ≡ length (pick A c)
unfolding ones ones_in
ones_pick [] c h = ap ones (lt-one h) ∙ sym (ap length (pick_nil c))
ones_pick (a ∷ A) c h =
    let p = pow-suc 2 (length A) in
    let s = ones_step c in
    let ih = ones_pick A (c / 2) (omega arith) in
    parity c (λ e. omega (arith, ap length (pick_odd a A c e))) (λ e. omega (arith, ap length (pick_even a A c e)))

-- a letter's spelling, by the number of its one bits
module _ (A : List ℕ) (c : ℕ) (h : c < 2 ^ length A) where
  pub ones_none : ones c ≡ 0 → spell A c ≡ 124 ∷ []
  ones_none e = spell_none A c (sym (ones_pick A c h) ∙ e)

  pub ones_one : ones c ≡ 1 → spell A c ≡ pick A c
  ones_one e = spell_one A c (sym (ones_pick A c h) ∙ e)

  -- the mark and a single letter are one byte
  pub ones_few : ones c ≤ 1 → length (spell A c) ≡ 1
  ones_few l =
      bool_cases (eqb (ones c) 0) (λ y. ap length (ones_none (eqb-true _ _ y)))
      (λ n. let z = eqb-false (ones c) 0 n in
      let e : ones c ≡ 1 = omega arith in
      ap length (ones_one e) ∙ sym (ones_pick A c h) ∙ e)

  module _ (l : 1 < ones c) where
    pub ones_all : ones c ≡ length A → spell A c ≡ 42 ∷ []
    ones_all e = spell_all A c (omega (arith, ones_pick A c h)) (sym (ones_pick A c h) ∙ e)

    pub ones_part : (ones c ≡ length A → ⊥) → spell A c ≡ 91 ∷ (pick A c ++ (93 ∷ []))
    ones_part m = spell_part A c (omega (arith, ones_pick A c h)) (λ z. m (ones_pick A c h ∙ z))

-- the bytes of c's members from the letter b on
module _ (A : List ℕ) (c : ℕ) where
  unfoldable pub rest_of : ℕ → List ℕ
  rest_of b = map (λ i. get_or A i 0) (members_from c b (length A - b))

  pub rest_all : rest_of 0 ≡ pick A c
  unfolding rest_of pick members
  rest_all = let z : length A - 0 ≡ length A = omega arith in rw z

  pub rest_none : (b : ℕ) → length A ≤ b → rest_of b ≡ []
  unfolding rest_of members_from
  rest_none b h = let z : length A - b ≡ 0 = omega arith in rw z

  module _ (b : ℕ) (h : b < length A) where
    on : rest_of b ≡ map (λ i. get_or A i 0) (keep (member b c) b (members_from c (b + 1) (length A - (b + 1))))
    unfolding rest_of members_from
    on =
        let e : length A - b ≡ suc (length A - (b + 1)) = omega arith in
        rw (e, add-one b)

    pub rest_has : true ≡ member b c → rest_of b ≡ get_or A b 0 ∷ rest_of (b + 1)
    unfolding rest_of
    rest_has e = on ∙ rw (← e)

    pub rest_not : false ≡ member b c → rest_of b ≡ rest_of (b + 1)
    unfolding rest_of
    rest_not e = on ∙ rw (← e)

pub line_at : (A cs : List ℕ) (i : ℕ) → i < length cs → line A (drop i cs) ≡ spell A (get_or cs i 0) ++ line A (drop (i + 1) cs)
unfolding line
line_at A cs i h = rw (drop-cons cs i 0 h, add-one i)

pub line_at_end : (A cs : List ℕ) (i : ℕ) → i ≡ length cs → line A (drop i cs) ≡ 10 ∷ []
unfolding line
line_at_end A cs i e = ap (λ (j : ℕ). line A (drop j cs)) e ∙ rw (drop-length cs)

pub line_step : (A cs : List ℕ) (i : ℕ) → i < length cs → length (line A (drop i cs)) ≡ length (spell A (get_or cs i 0)) + length (line A (drop (i + 1) cs))
line_step A cs i h = ap length (line_at A cs i h) ∙ length-append (spell A (get_or cs i 0)) (line A (drop (i + 1) cs))

-- ---- how long they are, at least and at most
pub line_some : (A cs : List ℕ) → 0 < length (line A cs)
unfolding line
line_some A [] = omega arith
line_some A (c ∷ cs) = omega (arith, line_some A cs, length-append (spell A c) (line A cs))

spell_most : (A : List ℕ) (c : ℕ) → length (spell A c) ≤ length A + 2
spell_most A c =
    let l = length_pick A c in
    bool_cases (eqb (length (pick A c)) 0)
    (λ y. omega (arith, ap length (spell_none A c (eqb-true _ _ y))))
    (λ z. let some = eqb-false (length (pick A c)) 0 z in
    bool_cases (eqb (length (pick A c)) 1)
    (λ y. let e = eqb-true (length (pick A c)) 1 y in omega (arith, ap length (spell_one A c e)))
    (λ n. let two : 1 < length (pick A c) = (let k = eqb-false (length (pick A c)) 1 n in omega arith) in
    bool_cases (eqb (length (pick A c)) (length A))
    (λ y. omega (arith, ap length (spell_all A c two (eqb-true (length (pick A c)) (length A) y))))
    (λ m. omega (arith, ap length (spell_part A c two (eqb-false (length (pick A c)) (length A) m)), length-append (pick A c) (93 ∷ [])))))

pub line_most : (A cs : List ℕ) → length (line A cs) ≤ (length A + 2) * length cs + 1
unfolding line
line_most A [] = omega arith
line_most A (c ∷ cs) =
    omega (arith, line_most A cs, spell_most A c, length-append (spell A c) (line A cs), mul-suc (length A + 2) (length cs))
