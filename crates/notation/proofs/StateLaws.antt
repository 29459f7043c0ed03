-- What a state of the reader means: the bytes of a letter that is not at its end, which a byte carries on and which can be carried to a right line. Assumes nothing.
use mathlib.Core.Path.{◌≡◌, refl, sym, ap, ap₂, ◌∙◌}
use mathlib.Core.Bool.{Bool, true, false, ◌&&◌, ◌||◌}
use mathlib.Core.List.{List, [], ◌∷◌, ◌++◌, append_assoc}
use mathlib.Core.Logic.{◌⊎◌, inl, inr, ⊎_elim}
use Prim.Native.Nat.{ℕ, suc, ◌+◌, ◌^◌, ◌≤◌, ◌<◌}
use native.Mathlib.Nat.{pow-suc}
use native.Mathlib.Omega.{arith}
use borrow.Author.Tests.{eqb-true, eqb-false, leb-true, leb-false, ltb-true}
use lib.Dec.{eqb, leb, ltb}
use lib.ListN.{length, get_or, length-append}
use lib.Seq.{append_snoc}
use lib.Pow.{pow_pos, pow-lt, pow_mono}
use Rattle.letters.proofs.Truth.{bool_cases, and_true_l, and_true_r}
use Rattle.notation.specs.Alphabet.{find}
use Rattle.notation.specs.Spelling.{pick, spell, line, Proper, AllProper}
use Rattle.notation.specs.Reader.{State, out, inside, Move, stop, end, to, letter, may_follow, inner, byte_move}
use Rattle.notation.proofs.PickLaws.{pick_zero, pick_snoc}
use Rattle.notation.proofs.FindLaws.{find_hit}
use Rattle.notation.proofs.SpellLaws.{spell_mark, spell_part, spell_single, spell_star}

module _ (A : List ℕ) where
  -- the bytes of a letter that is not at its end
  abbrev pub pre : State → List ℕ
  pre out = []
  pre (inside S t n) = 91 ∷ pick A S

  pub record Open (S t n : ℕ) : Type 0 where
    pub fits : S < 2 ^ t
    pub below : t ≤ length A
    pub size : length (pick A S) ≡ n
    pub part : n < length A
    pub some : 3 ≤ length A
    pub alive : (2 ≤ n) ⊎ (((n ≡ 1) × (t < length A)) ⊎ ((n ≡ 0) × (t ≡ 0)))

  abbrev pub Ok : State → Type 0
  Ok out = Unit {0}
  Ok (inside S t n) = Open S t n

module _ (marks : Bool) (A : List ℕ) where
  -- what a byte does is right: it ends the line, goes on in a letter, or ends one
  abbrev pub Sense : State → ℕ → Move → Type 0
  Sense σ b stop = Unit {0}
  Sense σ b end = pre A σ ++ (b ∷ []) ≡ 10 ∷ []
  Sense σ b (to τ) = Ok A τ × (pre A τ ≡ pre A σ ++ (b ∷ []))
  Sense σ b (letter c) = Proper marks (length A) c × (spell A c ≡ pre A σ ++ (b ∷ []))

  sense_out : (b : ℕ) → Sense out b (byte_move marks A out b)
  unfolding byte_move
  sense_out b =
      bool_cases (eqb b 10) (λ e. rw e (ap (λ (x : ℕ). x ∷ []) (eqb-true b 10 e)))
      (λ e. bool_cases (ltb (find A b) (length A))
      (λ f. let l = ltb-true (find A b) (length A) f in
      rw (e, f) ((λ z. absurd (omega (arith, pow_pos (find A b))), pow-lt l), spell_single A (find A b) l ∙ ap (λ (x : ℕ). x ∷ []) (find_hit A b l)))
      (λ f. bool_cases (eqb b 42 && leb 2 (length A))
      (λ g. let two = leb-true 2 (length A) (and_true_r (eqb b 42) (leb 2 (length A)) g) in
      let is = eqb-true b 42 (and_true_l (eqb b 42) (leb 2 (length A)) g) in
      let big = pow_mono two in
      rw (e, f, g) ((λ z. absurd (omega arith), omega arith), spell_star A two ∙ ap (λ (x : ℕ). x ∷ []) (sym is)))
      (λ g. bool_cases (eqb b 91 && leb 3 (length A))
      (λ h. let three = leb-true 3 (length A) (and_true_r (eqb b 91) (leb 3 (length A)) h) in
      let is = eqb-true b 91 (and_true_l (eqb b 91) (leb 3 (length A)) h) in
      rw (e, f, g, h) (
        record { fits = omega arith; below = omega arith; size = ap length (pick_zero A); part = omega arith; some = three; alive = inr (inr (refl, refl)) },
        ap₂ (λ (x : ℕ) (xs : List ℕ). x ∷ xs) (sym is) (pick_zero A),
      ))
      (λ h. bool_cases (eqb b 124 && marks)
      (λ i. let is = eqb-true b 124 (and_true_l (eqb b 124) marks i) in
      rw (e, f, g, h, i) ((λ z. and_true_r (eqb b 124) marks i, pow_pos (length A)), spell_mark A ∙ ap (λ (x : ℕ). x ∷ []) (sym is)))
      (λ i. rw (e, f, g, h, i) tt)))))

  sense_in : (S t n b : ℕ) → Open A S t n → Sense (inside S t n) b (byte_move marks A (inside S t n) b)
  unfolding byte_move inner may_follow
  sense_in S t n b o =
      let j = find A b in
      let inK = pow_mono o.below in
      bool_cases (eqb b 93)
      (λ e. bool_cases (leb 2 n)
      (λ f. let two = leb-true 2 n f in
      let pos : 0 < S = bool_cases (eqb S 0) (λ z. absurd (let q = ap (λ (x : ℕ). length (pick A x)) (eqb-true S 0 z) in omega (arith, o.size, ap length (pick_zero A)))) (λ z. let q = eqb-false S 0 z in omega arith) in
      rw (e, f) (
        (λ z. absurd (omega arith), omega (arith, o.fits)),
        spell_part A S (omega (arith, o.size)) (λ q. omega (arith, o.size, o.part)) ∙ ap (λ (x : ℕ). 91 ∷ (pick A S ++ (x ∷ []))) (sym (eqb-true b 93 e)),
      ))
      (λ f. rw (e, f) tt))
      (λ e. bool_cases (ltb j (length A) && leb t j && ltb (suc n) (length A) && (leb 1 n || ltb (suc j) (length A)))
      (λ f. let f3 = and_true_l (ltb j (length A) && leb t j && ltb (suc n) (length A)) (leb 1 n || ltb (suc j) (length A)) f in
      let f2 = and_true_l (ltb j (length A) && leb t j) (ltb (suc n) (length A)) f3 in
      let jk = ltb-true j (length A) (and_true_l (ltb j (length A)) (leb t j) f2) in
      let tj = leb-true t j (and_true_r (ltb j (length A)) (leb t j) f2) in
      let nk = ltb-true (suc n) (length A) (and_true_r (ltb j (length A) && leb t j) (ltb (suc n) (length A)) f3) in
      let or = and_true_r (ltb j (length A) && leb t j && ltb (suc n) (length A)) (leb 1 n || ltb (suc j) (length A)) f in
      let below : S < 2 ^ j = (let q = pow_mono tj in omega (arith, o.fits)) in
      let p = pick_snoc A j S jk below ∙ ap (λ (x : ℕ). pick A S ++ (x ∷ [])) (find_hit A b jk) in
      rw (e, f) (
        record {
          fits = omega (arith, pow-suc 2 j);
          below = jk;
          size = omega (arith, ap length p, length-append (pick A S) (b ∷ []), o.size);
          part = nk;
          some = o.some;
          alive = bool_cases (leb 1 n) (λ g. let l = leb-true 1 n g in inl (omega arith))
              (λ g. let l = leb-false 1 n g in let r : (false || ltb (suc j) (length A)) ≡ true = rw g at or in inr (inl (omega arith, ltb-true (suc j) (length A) r)));
        },
        ap (λ (xs : List ℕ). 91 ∷ xs) p,
      ))
      (λ f. rw (e, f) tt))

  pub sense : (σ : State) (b : ℕ) → Ok A σ → Sense σ b (byte_move marks A σ b)
  sense out b o = sense_out b
  sense (inside S t n) b o = sense_in S t n b o

  -- what a state's bytes can go on to
  pub record Live (w : List ℕ) : Type 0 where
    pub rest : List ℕ
    pub letters : List ℕ
    pub proper : AllProper marks (length A) letters
    pub spelled : w ++ rest ≡ line A letters

  live_close : (S : ℕ) → Proper marks (length A) S → 2 ≤ length (pick A S) → length (pick A S) < length A → 91 ∷ (pick A S ++ (93 ∷ 10 ∷ [])) ≡ line A (S ∷ [])
  unfolding line
  live_close S p two part =
      sym (ap (λ (xs : List ℕ). xs ++ (10 ∷ [])) (spell_part A S (omega arith) (λ e. omega arith)) ∙ ap (λ (xs : List ℕ). 91 ∷ xs) (append_assoc (pick A S) (93 ∷ []) (10 ∷ [])))

  -- adding the member t to a set below it
  grown : (S t : ℕ) → t < length A → S < 2 ^ t → Proper marks (length A) (S + 2 ^ t) × (pick A (S + 2 ^ t) ≡ pick A S ++ (get_or A t 0 ∷ [])) × (length (pick A (S + 2 ^ t)) ≡ suc (length (pick A S)))
  grown S t h l =
      let e = pick_snoc A t S h l in
      let m = pow_mono h in
      ((λ z. absurd (omega (arith, pow_pos t)), omega (arith, pow-suc 2 t)), e, omega (arith, ap length e, length-append (pick A S) (get_or A t 0 ∷ [])))

  pub live : (σ : State) → Ok A σ → Live (pre A σ)
  unfolding line
  live out o = record { rest = 10 ∷ []; letters = []; proper = tt; spelled = refl }
  live (inside S t n) o =
      let inK = pow_mono o.below in
      let pos : 0 < n → 0 < S = (λ l. bool_cases (eqb S 0) (λ z. absurd (let q = ap (λ (x : ℕ). length (pick A x)) (eqb-true S 0 z) in omega (arith, o.size, ap length (pick_zero A)))) (λ z. let q = eqb-false S 0 z in omega arith)) in
      let whole : 0 < n → Proper marks (length A) S = (λ l. (λ z. absurd (let q = pos l in omega arith), omega (arith, o.fits))) in
      ⊎_elim
      (λ two. record { rest = 93 ∷ 10 ∷ []; letters = S ∷ []; proper = (whole (omega arith), tt); spelled = live_close S (whole (omega arith)) (omega (arith, o.size)) (omega (arith, o.size, o.part)) })
      (λ w. ⊎_elim
      (λ one. let g = grown S t one.1 o.fits in
      record {
        rest = get_or A t 0 ∷ 93 ∷ 10 ∷ [];
        letters = (S + 2 ^ t) ∷ [];
        proper = (g.0, tt);
        spelled = ap (λ (xs : List ℕ). 91 ∷ xs) (sym (append_snoc (pick A S) (get_or A t 0) (93 ∷ 10 ∷ []))) ∙ ap (λ (xs : List ℕ). 91 ∷ (xs ++ (93 ∷ 10 ∷ []))) (sym g.1)
            ∙ live_close (S + 2 ^ t) g.0 (omega (arith, g.2, o.size)) (omega (arith, g.2, o.size, o.some));
      })
      (λ z. let f = o.fits in
      let s0 : S ≡ 0 = (let q = ap (λ (x : ℕ). 2 ^ x) z.1 in omega arith) in
      let g = grown 0 0 (omega (arith, o.some)) (omega arith) in
      let h = grown (0 + 2 ^ 0) 1 (omega (arith, o.some)) (omega arith) in
      let p0 = pick_zero A in
      record {
        rest = get_or A 0 0 ∷ get_or A 1 0 ∷ 93 ∷ 10 ∷ [];
        letters = (0 + 2 ^ 0 + 2 ^ 1) ∷ [];
        proper = (h.0, tt);
        spelled = ap (λ (x : ℕ). 91 ∷ (pick A x ++ (get_or A 0 0 ∷ get_or A 1 0 ∷ 93 ∷ 10 ∷ []))) s0
            ∙ ap (λ (xs : List ℕ). 91 ∷ xs) (sym (append_snoc (pick A 0) (get_or A 0 0) (get_or A 1 0 ∷ 93 ∷ 10 ∷ []))) ∙ ap (λ (xs : List ℕ). 91 ∷ (xs ++ (get_or A 1 0 ∷ 93 ∷ 10 ∷ []))) (sym g.1)
            ∙ ap (λ (xs : List ℕ). 91 ∷ xs) (sym (append_snoc (pick A (0 + 2 ^ 0)) (get_or A 1 0) (93 ∷ 10 ∷ []))) ∙ ap (λ (xs : List ℕ). 91 ∷ (xs ++ (93 ∷ 10 ∷ []))) (sym h.1)
            ∙ live_close (0 + 2 ^ 0 + 2 ^ 1) h.0 (omega (arith, h.2, g.2, ap length p0)) (omega (arith, h.2, g.2, ap length p0, o.some));
      })
      w) o.alive
