-- What was spelled is read: a letter by its spelling, and a line of letters. Assumes nothing.
use mathlib.Core.Path.{◌≡◌, refl, sym, ap, ap₂, ◌∙◌}
use mathlib.Core.Bool.{Bool, true, false, ◌||◌}
use mathlib.Core.List.{List, [], ◌∷◌, ◌++◌, append_assoc}
use Prim.Native.Nat.{ℕ, zero, suc, ◌+◌, ◌-◌, ◌*◌, ◌/◌, ◌%◌, ◌^◌, ◌≤◌, ◌<◌}
use native.Mathlib.Nat.{pow-suc, mul_assoc, mul-suc, mul-zero, add-zero, le_refl}
use native.Mathlib.Numerals.{add-one}
use native.Mathlib.Omega.{arith}
use borrow.Author.Tests.{ne_eqb, eqb-true, eqb-false, le-leb, lt-ltb, le-ltb, leb-false}
use lib.Dec.{eqb, leb, ltb}
use lib.ListN.{length, get_or, drop, length-append, length-drop}
use lib.Seq.{drop-cons, append_snoc}
use Rattle.letters.proofs.Truth.{bool_cases}
use Rattle.notation.specs.Alphabet.{find, Alphabet}
use Rattle.notation.specs.Spelling.{pick, spell, line, Proper, AllProper}
use Rattle.notation.specs.Reader.{out, inside, end, to, letter, may_follow, inner, byte_move, got, more, read_from}
use Rattle.notation.proofs.PickLaws.{parity, pick_zero, pick_odd, pick_even, pick_none, pick_one, pick_full, length_pick}
use Rattle.notation.proofs.AlphabetLaws.{is_plain, strange}
use Rattle.notation.proofs.SpellLaws.{spell_none, spell_one, spell_all, spell_part}
use Rattle.notation.proofs.ReadLaws.{read_on}

val_odd : (p x : ℕ) → x % 2 ≡ 1 → p * x ≡ p + p * 2 * (x / 2)
val_odd p x e =
    let y = x / 2 in
    let q : x ≡ suc (2 * y) = omega arith in
    ap (λ (z : ℕ). p * z) q ∙ mul-suc p (2 * y) ∙ (let r = mul_assoc p 2 y in omega arith)

val_even : (p x : ℕ) → x % 2 ≡ 0 → p * x ≡ p * 2 * (x / 2)
val_even p x e =
    let q : x ≡ 2 * (x / 2) = omega arith in
    ap (λ (z : ℕ). p * z) q ∙ sym (mul_assoc p 2 (x / 2))

or_true : (a b : Bool) → ((a ≡ false) → b ≡ true) → (a || b) ≡ true
or_true true b f = refl
or_true false b f = f refl

module _ (marks : Bool) (A : List ℕ) (al : Alphabet A) where
  -- what the bytes of a spelling do
  move_lf : byte_move marks A out 10 ≡ end
  unfolding byte_move
  move_lf = refl

  move_single : (j : ℕ) → j < length A → byte_move marks A out (get_or A j 0) ≡ letter (2 ^ j)
  unfolding byte_move
  move_single j h =
      let p = is_plain _ (al.bytes j h) in
      rw (ne_eqb (get_or A j 0) 10 (λ e. omega (arith, p.low)), al.differ j h, lt-ltb j (length A) h)

  move_star : 2 ≤ length A → byte_move marks A out 42 ≡ letter (2 ^ length A - 1)
  unfolding byte_move
  move_star h = rw (le-ltb (find A 42) (length A) (strange A al 42 (λ p. p.no_star refl)), le-leb 2 (length A) h)

  move_open : 3 ≤ length A → byte_move marks A out 91 ≡ to (inside 0 0 0)
  unfolding byte_move
  move_open h = rw (le-ltb (find A 91) (length A) (strange A al 91 (λ p. p.no_open refl)), le-leb 3 (length A) h)

  move_mark : marks ≡ true → byte_move marks A out 124 ≡ letter 0
  unfolding byte_move
  move_mark m = rw (le-ltb (find A 124) (length A) (strange A al 124 (λ p. p.no_mark refl)), m)

  move_close : (S t n : ℕ) → 2 ≤ n → byte_move marks A (inside S t n) 93 ≡ letter S
  unfolding byte_move inner
  move_close S t n h = rw (le-leb 2 n h)

  move_member : (S t n j : ℕ) → j < length A → t ≤ j → suc n < length A → (n < 1 → suc j < length A) → byte_move marks A (inside S t n) (get_or A j 0) ≡ to (inside (S + 2 ^ j) (suc j) (suc n))
  unfolding byte_move inner may_follow
  move_member S t n j h l m f =
      let p = is_plain _ (al.bytes j h) in
      rw (ne_eqb (get_or A j 0) 93 p.no_close, al.differ j h, lt-ltb j (length A) h, le-leb t j l, lt-ltb (suc n) (length A) m, or_true (leb 1 n) (ltb (suc j) (length A)) (λ e. lt-ltb _ _ (f (leb-false 1 n e))))

  -- the members from t on, x of them, then the closer
  members : (m t : ℕ) → t + m ≡ length A → (S n u x at : ℕ) (rest : List ℕ) → u ≤ t → x < 2 ^ m
      → 2 ≤ n + length (pick (drop t A) x) → n + length (pick (drop t A) x) < length A
      → read_from marks A (inside S u n) at (pick (drop t A) x ++ (93 ∷ rest)) ≡ more (S + 2 ^ t * x) (read_from marks A out (suc (at + length (pick (drop t A) x))) rest)
  members zero t q S n u x at rest l h two part =
      let z : x ≡ 0 = omega arith in
      let e : pick (drop t A) x ≡ [] = ap (pick (drop t A)) z ∙ pick_zero (drop t A) in
      let two' : 2 ≤ n = omega (arith, ap length e) in
      rw (e, z, mul-zero (2 ^ t), add-zero S, add-zero at) (read_on marks A (inside S u n) at 93 rest _ (move_close S u n two'))
  members (suc m) t q S n u x at rest l h two part =
      let i : t < length A = omega arith in
      let d = drop-cons A t 0 i in
      let p = pow-suc 2 m in
      let y = x / 2 in
      let w = pick (drop (suc t) A) y in
      let room : length w ≤ length A - suc t = omega (arith, length_pick (drop (suc t) A) y, length-drop (suc t) A) in
      parity x
      (λ o. let e : pick (drop t A) x ≡ get_or A t 0 ∷ w = ap (λ (R : List ℕ). pick R x) d ∙ pick_odd (get_or A t 0) (drop (suc t) A) x o in
      let le = ap length e in
      let ih = members m (suc t) (omega arith) (S + 2 ^ t) (suc n) (suc t) y (suc at) rest (le_refl _) (omega arith) (omega arith) (omega arith) in
      let v : S + 2 ^ t + 2 ^ suc t * y ≡ S + 2 ^ t * x = omega (arith, val_odd (2 ^ t) x o, ap (λ (z : ℕ). z * y) (pow-suc 2 t)) in
      let a : suc (suc at + length w) ≡ suc (at + suc (length w)) = omega arith in
      rw e
      (read_on marks A (inside S u n) at (get_or A t 0) (w ++ (93 ∷ rest)) _ (move_member S u n t i l (omega arith) (λ z. omega arith)) ∙ ih
      ∙ ap₂ (λ (z b : ℕ). more z (read_from marks A out b rest)) v a))
      (λ o. let e : pick (drop t A) x ≡ w = ap (λ (R : List ℕ). pick R x) d ∙ pick_even (get_or A t 0) (drop (suc t) A) x o in
      let le = ap length e in
      let ih = members m (suc t) (omega arith) S n u y at rest (omega arith) (omega arith) (omega arith) (omega arith) in
      let v : S + 2 ^ suc t * y ≡ S + 2 ^ t * x = omega (arith, val_even (2 ^ t) x o, ap (λ (z : ℕ). z * y) (pow-suc 2 t)) in
      rw e (ih ∙ ap (λ (z : ℕ). more z (read_from marks A out (suc (at + length w)) rest)) v))

  -- a letter that was spelled is read
  pub letter_read : (c at : ℕ) (rest : List ℕ) → Proper marks (length A) c → read_from marks A out at (spell A c ++ rest) ≡ more c (read_from marks A out (at + length (spell A c)) rest)
  letter_read c at rest pc =
      bool_cases (eqb (length (pick A c)) 0)
      (λ e. let none = eqb-true (length (pick A c)) 0 e in
      let z : c ≡ 0 = pick_none A c pc.1 none in
      rw (spell_none A c none)
      (read_on marks A out at 124 rest _ (move_mark (pc.0 z)) ∙ ap₂ (λ (y b : ℕ). more y (read_from marks A out b rest)) (sym z) (sym (add-one at))))
      (λ e. let some = eqb-false (length (pick A c)) 0 e in
      bool_cases (eqb (length (pick A c)) 1)
      (λ f. let w = pick_one A c pc.1 (eqb-true _ _ f) in
      let s : spell A c ≡ get_or A w.number 0 ∷ [] = spell_one A c (eqb-true _ _ f) ∙ w.member in
      rw s
      (read_on marks A out at (get_or A w.number 0) rest _ (move_single w.number w.below)
      ∙ ap₂ (λ (z b : ℕ). more z (read_from marks A out b rest)) (sym w.power) (sym (add-one at))))
      (λ f. let ne = eqb-false (length (pick A c)) 1 f in
      let le = length_pick A c in
      let two : 1 < length (pick A c) = omega arith in
      bool_cases (eqb (length (pick A c)) (length A))
      (λ g. let fe = eqb-true (length (pick A c)) (length A) g in
      rw (spell_all A c two fe)
      (read_on marks A out at 42 rest _ (move_star (omega arith))
      ∙ ap₂ (λ (z b : ℕ). more z (read_from marks A out b rest)) (sym (pick_full A c pc.1 fe)) (sym (add-one at))))
      (λ g. let fe = eqb-false (length (pick A c)) (length A) g in
      let s = spell_part A c two fe in
      let m = members (length A) 0 (omega arith) 0 0 0 c (suc at) rest (le_refl 0) pc.1 (omega arith) (omega arith) in
      let v : 0 + 2 ^ 0 * c ≡ c = omega arith in
      let a : suc (suc at + length (pick A c)) ≡ at + suc (length (pick A c ++ (93 ∷ []))) = omega (arith, length-append (pick A c) (93 ∷ [])) in
      rw (s, append_snoc (pick A c) 93 rest)
      (read_on marks A out at 91 (pick A c ++ (93 ∷ rest)) _ (move_open (omega arith)) ∙ m
      ∙ ap₂ (λ (z b : ℕ). more z (read_from marks A out b rest)) v a))))

  -- reading what was spelled gives the letters
  pub line_read : (cs : List ℕ) (at : ℕ) (rest : List ℕ) → AllProper marks (length A) cs → read_from marks A out at (line A cs ++ rest) ≡ got cs (at + length (line A cs))
  unfolding line
  line_read [] at rest p = read_on marks A out at 10 rest _ move_lf ∙ ap (got []) (sym (add-one at))
  line_read (c ∷ cs) at rest p =
      rw (append_assoc (spell A c) (line A cs) rest)
      (letter_read c at (line A cs ++ rest) p.0 ∙ ap (more c) (line_read cs (at + length (spell A c)) rest p.1)
      ∙ ap (got (c ∷ cs)) (let e = length-append (spell A c) (line A cs) in omega arith))
