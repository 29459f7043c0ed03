-- The place of a wrong alphabet line is the first wrong byte: 91 bytes are plain, enough to fill up any alphabet of so many letters. Assumes nothing.
use mathlib.Core.Path.{◌≡◌, refl, sym, ap, ap₂, ◌∙◌, subst}
use mathlib.Core.Bool.{false, cond}
use mathlib.Core.List.{List, [], ◌∷◌, ◌++◌, append_assoc, append-nil}
use Prim.Native.Nat.{ℕ, zero, suc, ◌+◌, ◌≤◌, ◌<◌, zero-le}
use native.Mathlib.Omega.{arith}
use borrow.Author.Tests.{ne_eqb, eqb-true, eqb-false}
use lib.Dec.{eqb}
use lib.ListN.{length, get_or, take, drop, length-append}
use lib.Seq.{append_snoc, take_at, drop_at, take-suc, get_or-drop}
use Rattle.letters.specs.First.{first_with}
use Rattle.letters.proofs.Truth.{bool_cases}
use Rattle.notation.specs.Alphabet.{plain, Alphabet, fresh, fresh_from, end_at, bytes_then, wrong_at, alphabet_at}
use Rattle.notation.specs.Spelling.{AlphabetLine}
use Rattle.notation.specs.Wrong.{FirstWrong}
use Rattle.notation.specs.declared.alphabet.Wrong.{Wrong}
use Rattle.std.proofs.Common.{Result, Ok, Err}
use Rattle.notation.proofs.FindLaws.{find_snoc}
use Rattle.notation.proofs.AlphabetLaws.{wrong_same, Fresh, is_fresh, alphabet_on, alphabet_none, fresh_read, alphabet_listed, alphabet_unended}

-- how many of the n bytes from b on are fresh
free : List ℕ → ℕ → ℕ → ℕ
free before b zero = 0
free before b (suc n) = cond (fresh before b) (suc (free before (suc b) n)) (free before (suc b) n)

some_free : (before : List ℕ) (b n : ℕ) → 0 < free before b n → (x : ℕ) × Fresh before x
unfolding free
some_free before b zero h = absurd (omega arith)
some_free before b (suc n) h =
    bool_cases (fresh before b) (λ e. (b, is_fresh before b e)) (λ e. let h' : 0 < free before (suc b) n = rw e at h in some_free before (suc b) n h')

-- is x among b, b + 1, .., n of them
holds : ℕ → ℕ → ℕ → ℕ
holds x b zero = 0
holds x b (suc n) = cond (eqb b x) 1 (holds x (suc b) n)

holds_le : (x b n : ℕ) → holds x b n ≤ 1
unfolding holds
holds_le x b zero = zero-le
holds_le x b (suc n) = bool_cases (eqb b x) (λ e. rw e (omega arith)) (λ e. rw e (holds_le x (suc b) n))

holds_past : (x b n : ℕ) → x < b → holds x b n ≡ 0
unfolding holds
holds_past x b zero h = refl
holds_past x b (suc n) h = rw (ne_eqb b x (λ e. omega arith)) (holds_past x (suc b) n (omega arith))

-- one byte more before takes at most one fresh byte away
fresh_snoc : (A : List ℕ) (x b : ℕ) → (b ≡ x → ⊥) → fresh (A ++ (x ∷ [])) b ≡ fresh A b
unfolding fresh
fresh_snoc A x b n = rw (find_snoc A x b n)

free_snoc : (A : List ℕ) (x b n : ℕ) → free A b n ≤ free (A ++ (x ∷ [])) b n + holds x b n
unfolding free holds
free_snoc A x b zero = zero-le
free_snoc A x b (suc n) =
    bool_cases (eqb b x)
    (λ e. let q = eqb-true b x e in
    let ih = free_snoc A x (suc b) n in
    let z = holds_past x (suc b) n (omega arith) in
    rw e
    (bool_cases (fresh A b)
    (λ f. rw f (bool_cases (fresh (A ++ (x ∷ [])) b) (λ g. rw g (omega arith)) (λ g. rw g (omega arith))))
    (λ f. rw f (bool_cases (fresh (A ++ (x ∷ [])) b) (λ g. rw g (omega arith)) (λ g. rw g (omega arith))))))
    (λ e. let ih = free_snoc A x (suc b) n in
    rw (e, fresh_snoc A x b (eqb-false b x e)) (bool_cases (fresh A b) (λ f. rw f (omega arith)) (λ f. rw f ih)))

-- 91 bytes are plain, and each byte before takes at most one of them
abbrev Many : List ℕ → Type 0
Many before = 91 ≤ free before 0 128 + length before

many_none : Many []
unfolding free fresh plain first_with
many_none = omega arith

many_on : (A : List ℕ) (x : ℕ) → Many A → Many (A ++ (x ∷ []))
many_on A x m = omega (arith, free_snoc A x 0 128, holds_le x 0 128, length-append A (x ∷ []))

-- an alphabet can be filled up
record Grown (before : List ℕ) (k : ℕ) : Type 0 where
  bytes : List ℕ
  size : length bytes ≡ k
  right : Alphabet (before ++ bytes)

grow : (k : ℕ) (before : List ℕ) → Alphabet before → Many before → length before + k ≤ 91 → Grown before k
grow zero before al m h = record { bytes = []; size = refl; right = subst Alphabet (sym (append-nil before)) al }
grow (suc k) before al m h =
    let f = some_free before 0 128 (omega arith) in
    let x = f.0 in
    let g = grow k (before ++ (x ∷ [])) (alphabet_on before x al f.1) (many_on before x m) (omega (arith, length-append before (x ∷ []))) in
    record { bytes = x ∷ g.bytes; size = ap suc g.size; right = subst Alphabet (append_snoc before x g.bytes) g.right }

-- where the reader of the bytes stops: those before it can be filled up, and with it they stay refused
record Stuck (before : List ℕ) (k at : ℕ) (s : List ℕ) (q : ℕ) : Type 0 where
  far : ℕ
  place : q ≡ at + far
  within : far ≤ length s
  rest : List ℕ
  bytes : List ℕ
  size : length bytes ≡ k
  right : Alphabet (before ++ bytes)
  front : take far s ++ rest ≡ bytes
  refused : far < length s → (v : List ℕ) → fresh_from before k at (take (suc far) s ++ v) ≡ wrong_at q

here : (before : List ℕ) (k at : ℕ) (s : List ℕ) (q : ℕ) → Grown before k → q ≡ at → (0 < length s → (v : List ℕ) → fresh_from before k at (take 1 s ++ v) ≡ wrong_at q) → Stuck before k at s q
here before k at s q g e f = record { far = 0; place = omega arith; within = zero-le; rest = g.bytes; bytes = g.bytes; size = g.size; right = g.right; front = refl; refused = f }

stuck : (before : List ℕ) (k at : ℕ) (s : List ℕ) (q : ℕ) → Alphabet before → Many before → length before + k ≤ 91 → fresh_from before k at s ≡ wrong_at q → Stuck before k at s q
unfolding fresh_from
stuck before zero at s q al m h e = cc
stuck before (suc k) at [] q al m h e = here before (suc k) at [] q (grow (suc k) before al m h) (sym (wrong_same e)) (λ l. absurd (omega arith))
stuck before (suc k) at (b ∷ s) q al m h e =
    bool_cases (fresh before b)
    (λ f. let w : fresh_from (before ++ (b ∷ [])) k (suc at) s ≡ wrong_at q = rw f at e in
    let ih = stuck (before ++ (b ∷ [])) k (suc at) s q (alphabet_on before b al (is_fresh before b f)) (many_on before b m) (omega (arith, length-append before (b ∷ []))) w in
    record {
      far = suc ih.far;
      place = omega (arith, ih.place);
      within = omega (arith, ih.within);
      rest = ih.rest;
      bytes = b ∷ ih.bytes;
      size = ap suc ih.size;
      right = subst Alphabet (append_snoc before b ih.bytes) ih.right;
      front = ap (λ (xs : List ℕ). b ∷ xs) ih.front;
      refused = λ l v. rw f (ih.refused (omega arith) v);
    })
    (λ f. let w : wrong_at at ≡ wrong_at q = rw f at e in here before (suc k) at (b ∷ s) q (grow (suc k) before al m h) (sym (wrong_same w)) (λ l v. rw f w))

-- a right line is not refused
not_both : (k at : ℕ) (w : List ℕ) (q : ℕ) → AlphabetLine k w → alphabet_at k at w ≡ wrong_at q → ⊥
not_both k at w q r e =
    let a : alphabet_at k at w ≡ Ok (suc (at + length r.bytes))
    = ap₂ (λ (x : ℕ) (ys : List ℕ). alphabet_at x at ys) (sym r.size) r.listed ∙ alphabet_listed r.bytes at [] r.right in
    cc

-- the bytes are right, and the LF is missing
record Unended (k at : ℕ) (s : List ℕ) (q : ℕ) : Type 0 where
  far : q ≡ at + k
  within : k ≤ length s
  bytes : List ℕ
  size : length bytes ≡ k
  right : Alphabet bytes
  front : take k s ≡ bytes
  refused : k < length s → (v : List ℕ) → alphabet_at k at (take (suc k) s ++ v) ≡ wrong_at q

end_wrong : (at : ℕ) (s : List ℕ) (q : ℕ) → end_at at s ≡ wrong_at q → (q ≡ at) × (0 < length s → eqb (get_or s 0 0) 10 ≡ false)
unfolding end_at
end_wrong at [] q e = (sym (wrong_same e), λ l. absurd (omega arith))
end_wrong at (b ∷ s) q e =
    bool_cases (eqb b 10) (λ f. let w : Ok (suc at) ≡ wrong_at q = rw f at e in cc)
    (λ f. let w : wrong_at at ≡ wrong_at q = rw f at e in (sym (wrong_same w), λ l. f))

unended : (k at : ℕ) (s : List ℕ) (f q : ℕ) → fresh_from [] k at s ≡ Ok f → end_at f (drop k s) ≡ wrong_at q → Unended k at s q
unended k at s f q h e =
    let l = fresh_read [] k at s f alphabet_none h in
    let B = l.bytes in
    let n = ap length l.split ∙ length-append B l.rest in
    let t : take k s ≡ B = ap (take k) l.split ∙ take_at B l.rest k l.size in
    let d : drop k s ≡ l.rest = ap (drop k) l.split ∙ drop_at B l.rest k l.size in
    let w = end_wrong f (drop k s) q e in
    let p : q ≡ at + k = omega (arith, w.0, l.place) in
    record {
      far = p;
      within = omega (arith, l.size);
      bytes = B;
      size = l.size;
      right = l.right;
      front = t;
      refused = λ i v. let b = get_or s k 0 in
          let x : take (suc k) s ++ v ≡ B ++ (b ∷ v) = ap (λ (xs : List ℕ). xs ++ v) (take-suc s k 0 i ∙ ap (λ (xs : List ℕ). xs ++ (b ∷ [])) t) ∙ append_snoc B b v in
          let y : get_or (drop k s) 0 0 ≡ b = get_or-drop k s 0 0 ∙ ap (λ (j : ℕ). get_or s j 0) (let z : k + 0 ≡ k = omega arith in z) in
          let u : eqb b 10 ≡ false = ap (λ (z : ℕ). eqb z 10) (sym y) ∙ w.1 (omega (arith, ap length d, l.size)) in
          ap (alphabet_at k at) x ∙ ap (λ (j : ℕ). alphabet_at j at (B ++ (b ∷ v))) (sym l.size) ∙ alphabet_unended B at b v l.right u ∙ ap wrong_at (let z : at + length B ≡ q = omega (arith, l.size) in z);
    }

-- a refusal names the first wrong byte
pub alphabet_first_wrong : (k at : ℕ) (s : List ℕ) (q : ℕ) → k ≤ 91 → alphabet_at k at s ≡ wrong_at q → (far : ℕ) × (q ≡ at + far) × FirstWrong (AlphabetLine k) s far
unfolding alphabet_at
alphabet_first_wrong k at s q h e = go (fresh_from [] k at s) refl e
  where
    go : (r : Result ℕ Wrong) → fresh_from [] k at s ≡ r → bytes_then r (λ f. end_at f (drop k s)) ≡ wrong_at q → (far : ℕ) × (q ≡ at + far) × FirstWrong (AlphabetLine k) s far
    go (Err p) i w =
        let u = stuck [] k at s q alphabet_none many_none (omega arith) (i ∙ w) in (
          u.far,
          u.place,
          record {
            within = u.within;
            before = record {
              rest = u.rest ++ (10 ∷ []);
              right = record { bytes = u.bytes; size = u.size; right = u.right; listed = sym (append_assoc (take u.far s) u.rest (10 ∷ [])) ∙ ap (λ (xs : List ℕ). xs ++ (10 ∷ [])) u.front };
            };
            wrong = λ l g. not_both k at (take (suc u.far) s ++ g.rest) q g.right (rw (u.refused l g.rest));
          },
        )
    go (Ok f) i w =
        let u = unended k at s f q i w in (
          k,
          u.far,
          record {
            within = u.within;
            before = record { rest = 10 ∷ []; right = record { bytes = u.bytes; size = u.size; right = u.right; listed = ap (λ (xs : List ℕ). xs ++ (10 ∷ [])) u.front } };
            wrong = λ l g. not_both k at (take (suc k) s ++ g.rest) q g.right (u.refused l g.rest);
          },
        )
