-- An alphabet line that is right lists an alphabet, and an alphabet is listed by a right line. Assumes nothing.
use mathlib.Core.Path.{◌≡◌, refl, sym, ap, ◌∙◌, subst}
use mathlib.Core.Bool.{true, false, not, ◌&&◌}
use mathlib.Core.List.{List, [], ◌∷◌, ◌++◌, append-nil}
use Prim.Native.Nat.{ℕ, zero, suc, ◌+◌, ◌≤◌, ◌<◌}
use native.Mathlib.Nat.{add-suc, suc-add, add-zero}
use native.Mathlib.Omega.{arith}
use borrow.Author.Tests.{le-ltb, ltb-true, ltb-false, eqb-true, eqb-false, leb-true, leb-false, not-true}
use lib.Dec.{eqb, leb, ltb}
use lib.ListN.{length, get_or, take, drop, length-append, get_or-append}
use lib.Seq.{take_at, append_snoc, get_or-append_seam, drop-append_seam, drop_at}
use Rattle.letters.proofs.Truth.{bool_cases, and_true_l, and_true_r}
use Rattle.notation.specs.Alphabet.{plain, find, Alphabet, fresh, fresh_from, end_at, bytes_then, wrong_at, alphabet_at}
use Rattle.notation.specs.declared.alphabet.Wrong.{Wrong}
use Rattle.std.proofs.Common.{Result, Ok, Err}
use Rattle.letters.proofs.FirstLaws.{first_append_in, first_append_out}
use Rattle.notation.proofs.FindLaws.{find_hit, find_same}

pub wrong_same : {A : Type 0} {p q : ℕ} → wrong_at {A = A} p ≡ wrong_at q → p ≡ q
wrong_same {A} {p} {q} e = let r : ◌≡◌ {A = Wrong} (record { place = p }) (record { place = q }) = cc in ap (λ (w : Wrong). w.place) r

pub record Plain (b : ℕ) : Type 0 where
  pub low : 32 ≤ b
  pub no_open : b ≡ 91 → ⊥
  pub no_close : b ≡ 93 → ⊥
  pub no_star : b ≡ 42 → ⊥
  pub no_mark : b ≡ 124 → ⊥

pub is_plain : (b : ℕ) → plain b ≡ true → Plain b
unfolding plain
is_plain b e =
    let e5 = and_true_l (leb 32 b && leb b 126 && not (eqb b 91) && not (eqb b 93) && not (eqb b 42)) (not (eqb b 124)) e in
    let e4 = and_true_l (leb 32 b && leb b 126 && not (eqb b 91) && not (eqb b 93)) (not (eqb b 42)) e5 in
    let e3 = and_true_l (leb 32 b && leb b 126 && not (eqb b 91)) (not (eqb b 93)) e4 in
    let e2 = and_true_l (leb 32 b && leb b 126) (not (eqb b 91)) e3 in
    record {
      low = leb-true 32 b (and_true_l (leb 32 b) (leb b 126) e2);
      no_open = eqb-false b 91 (not-true (eqb b 91) (and_true_r (leb 32 b && leb b 126) (not (eqb b 91)) e3));
      no_close = eqb-false b 93 (not-true (eqb b 93) (and_true_r (leb 32 b && leb b 126 && not (eqb b 91)) (not (eqb b 93)) e4));
      no_star = eqb-false b 42 (not-true (eqb b 42) (and_true_r (leb 32 b && leb b 126 && not (eqb b 91) && not (eqb b 93)) (not (eqb b 42)) e5));
      no_mark = eqb-false b 124 (not-true (eqb b 124) (and_true_r (leb 32 b && leb b 126 && not (eqb b 91) && not (eqb b 93) && not (eqb b 42)) (not (eqb b 124)) e));
    }

-- a byte that is not plain is no letter
pub strange : (A : List ℕ) → Alphabet A → (b : ℕ) → (Plain b → ⊥) → length A ≤ find A b
strange A al b n =
    bool_cases (leb (length A) (find A b)) (λ e. leb-true _ _ e)
    (λ e. let l : find A b < length A = leb-false _ _ e in
    absurd (n (subst Plain (find_hit A b l) (is_plain _ (al.bytes (find A b) l)))))

-- one more letter
pub alphabet_more : (A : List ℕ) (b : ℕ) → Alphabet A → plain b ≡ true → length A ≤ find A b → Alphabet (A ++ (b ∷ []))
alphabet_more A b al p f = record { bytes = λ i h. at_bytes i h; differ = λ i h. at_differ i h }
  where
    n : length (A ++ (b ∷ [])) ≡ length A + 1
    n = length-append A (b ∷ [])

    at_bytes : (i : ℕ) → i < length (A ++ (b ∷ [])) → plain (get_or (A ++ (b ∷ [])) i 0) ≡ true
    at_bytes i h =
        bool_cases (ltb i (length A))
        (λ e. let l = ltb-true i (length A) e in ap plain (get_or-append A (b ∷ []) 0 i l) ∙ al.bytes i l)
        (λ e. let l = ltb-false i (length A) e in let q : i ≡ length A = omega (arith, n) in ap plain (ap (λ (j : ℕ). get_or (A ++ (b ∷ [])) j 0) q ∙ get_or-append_seam A b [] 0) ∙ p)

    at_differ : (i : ℕ) → i < length (A ++ (b ∷ [])) → find (A ++ (b ∷ [])) (get_or (A ++ (b ∷ [])) i 0) ≡ i
    at_differ i h =
        bool_cases (ltb i (length A))
        (λ e. let l = ltb-true i (length A) e in
        let d = al.differ i l in
        ap (find (A ++ (b ∷ []))) (get_or-append A (b ∷ []) 0 i l) ∙ first_append_in (eqb (get_or A i 0)) A (b ∷ []) (omega arith) ∙ d)
        (λ e. let l = ltb-false i (length A) e in
        let q : i ≡ length A = omega (arith, n) in
        ap (find (A ++ (b ∷ []))) (ap (λ (j : ℕ). get_or (A ++ (b ∷ [])) j 0) q ∙ get_or-append_seam A b [] 0) ∙ first_append_out (eqb b) A (b ∷ []) f ∙ ap (λ (x : ℕ). length A + x) (find_same b []) ∙ add-zero (length A) ∙ sym q)

pub alphabet_none : Alphabet []
alphabet_none = record { bytes = λ i h. absurd (omega arith); differ = λ i h. absurd (omega arith) }

-- a fresh byte is plain and new
pub record Fresh (before : List ℕ) (b : ℕ) : Type 0 where
  pub good : plain b ≡ true
  pub new : length before ≤ find before b

pub is_fresh : (before : List ℕ) (b : ℕ) → fresh before b ≡ true → Fresh before b
unfolding fresh
is_fresh before b e =
    record {
      good = and_true_l (plain b) (not (ltb (find before b) (length before))) e;
      new = ltb-false _ _ (not-true (ltb (find before b) (length before)) (and_true_r (plain b) (not (ltb (find before b) (length before))) e));
    }

pub fresh_is : (before : List ℕ) (b : ℕ) → Fresh before b → fresh before b ≡ true
unfolding fresh
fresh_is before b f = rw (f.good, le-ltb (find before b) (length before) f.new)

pub alphabet_on : (A : List ℕ) (b : ℕ) → Alphabet A → Fresh A b → Alphabet (A ++ (b ∷ []))
alphabet_on A b al f = alphabet_more A b al f.good f.new

-- the next byte of an alphabet is fresh
pub next_fresh : (before : List ℕ) (a : ℕ) (A : List ℕ) → Alphabet (before ++ (a ∷ A)) → Fresh before a
next_fresh before a A al =
    let n = length-append before (a ∷ A) in
    let seam : get_or (before ++ (a ∷ A)) (length before) 0 ≡ a = get_or-append_seam before a A 0 in
    let d : find (before ++ (a ∷ A)) a ≡ length before = ap (find (before ++ (a ∷ A))) (sym seam) ∙ al.differ (length before) (omega arith) in
    record {
      good = ap plain (sym seam) ∙ al.bytes (length before) (omega arith);
      new = bool_cases (ltb (find before a) (length before))
          (λ e. absurd (omega (arith, ltb-true (find before a) (length before) e, first_append_in (eqb a) before (a ∷ A) (ltb-true _ _ e)))) (λ e. ltb-false _ _ e);
    }

-- the bytes that were read
pub record Lists (before : List ℕ) (k at : ℕ) (s : List ℕ) (e : ℕ) : Type 0 where
  pub bytes : List ℕ
  pub rest : List ℕ
  pub size : length bytes ≡ k
  pub split : s ≡ bytes ++ rest
  pub right : Alphabet (before ++ bytes)
  pub place : e ≡ at + k

pub fresh_read : (before : List ℕ) (k at : ℕ) (s : List ℕ) (e : ℕ) → Alphabet before → fresh_from before k at s ≡ Ok e → Lists before k at s e
unfolding fresh_from
fresh_read before zero at s e al q =
    let x : e ≡ at = cc in
    record { bytes = []; rest = s; size = refl; split = refl; right = subst Alphabet (sym (append-nil before)) al; place = omega arith }
fresh_read before (suc k) at [] e al q = cc
fresh_read before (suc k) at (b ∷ s) e al q =
    bool_cases (fresh before b)
    (λ f. let w : fresh_from (before ++ (b ∷ [])) k (suc at) s ≡ Ok e = rw f at q in
    let ih = fresh_read (before ++ (b ∷ [])) k (suc at) s e (alphabet_on before b al (is_fresh before b f)) w in
    record {
      bytes = b ∷ ih.bytes;
      rest = ih.rest;
      size = ap suc ih.size;
      split = ap (λ (xs : List ℕ). b ∷ xs) ih.split;
      right = subst Alphabet (append_snoc before b ih.bytes) ih.right;
      place = omega (arith, ih.place);
    })
    (λ f. let w : wrong_at at ≡ Ok e = rw f at q in cc)

pub fresh_listed : (before A : List ℕ) (at : ℕ) (r : List ℕ) → Alphabet (before ++ A) → fresh_from before (length A) at (A ++ r) ≡ Ok (at + length A)
unfolding fresh_from
fresh_listed before [] at r al = ap Ok (sym (add-zero at))
fresh_listed before (a ∷ A) at r al =
    rw (fresh_is before a (next_fresh before a A al))
    (fresh_listed (before ++ (a ∷ [])) A (suc at) r (subst Alphabet (sym (append_snoc before a A)) al) ∙ ap Ok (suc-add at (length A) ∙ sym (add-suc at (length A))))

-- bytes, then the LF
pub end_read : (at : ℕ) (s : List ℕ) (e : ℕ) → end_at at s ≡ Ok e → (r : List ℕ) × (s ≡ 10 ∷ r) × (e ≡ suc at)
unfolding end_at
end_read at [] e q = cc
end_read at (b ∷ s) e q =
    bool_cases (eqb b 10)
    (λ f. let w : Ok (suc at) ≡ Ok e = rw f at q in (s, ap (λ (x : ℕ). x ∷ s) (eqb-true b 10 f), (cc)))
    (λ f. let w : wrong_at at ≡ Ok e = rw f at q in cc)

-- the alphabet line: its bytes are an alphabet of k
pub record Listed (k at : ℕ) (s : List ℕ) (e : ℕ) : Type 0 where
  pub bytes : List ℕ
  pub rest : List ℕ
  pub size : length bytes ≡ k
  pub split : s ≡ bytes ++ (10 ∷ rest)
  pub right : Alphabet bytes
  pub place : e ≡ suc (at + k)

pub alphabet_read : (k at : ℕ) (s : List ℕ) (e : ℕ) → alphabet_at k at s ≡ Ok e → Listed k at s e
unfolding alphabet_at
alphabet_read k at s e q = go (fresh_from [] k at s) refl q
  where
    go : (r : Result ℕ Wrong) → fresh_from [] k at s ≡ r → bytes_then r (λ f. end_at f (drop k s)) ≡ Ok e → Listed k at s e
    go (Err p) h w = cc
    go (Ok f) h w =
        let l = fresh_read [] k at s f alphabet_none h in
        let d : drop k s ≡ l.rest = ap (drop k) l.split ∙ drop_at l.bytes l.rest k l.size in
        let t = end_read f (drop k s) e w in
        record {
          bytes = l.bytes;
          rest = t.0;
          size = l.size;
          split = l.split ∙ ap (λ (xs : List ℕ). l.bytes ++ xs) (sym d ∙ t.1);
          right = l.right;
          place = omega (arith, l.place, t.2);
        }

pub alphabet_listed : (A : List ℕ) (at : ℕ) (r : List ℕ) → Alphabet A → alphabet_at (length A) at (A ++ (10 ∷ r)) ≡ Ok (suc (at + length A))
unfolding alphabet_at end_at
alphabet_listed A at r al = rw (fresh_listed [] A at (10 ∷ r) al, drop-append_seam A (10 ∷ r))

-- where the LF should stand and does not
pub alphabet_unended : (A : List ℕ) (at b : ℕ) (r : List ℕ) → Alphabet A → eqb b 10 ≡ false → alphabet_at (length A) at (A ++ (b ∷ r)) ≡ wrong_at (at + length A)
unfolding alphabet_at end_at
alphabet_unended A at b r al n = rw (fresh_listed [] A at (b ∷ r) al, drop-append_seam A (b ∷ r), n)

-- so many bytes are there to be taken
pub alphabet_size : (k at : ℕ) (s : List ℕ) (e : ℕ) → alphabet_at k at s ≡ Ok e → length (take k s) ≡ k
alphabet_size k at s e q =
    let l = alphabet_read k at s e q in
    ap length (ap (take k) l.split ∙ take_at l.bytes (10 ∷ l.rest) k l.size) ∙ l.size
