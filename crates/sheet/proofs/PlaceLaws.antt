-- The place of a refusal 12 or 13 is the first wrong byte of its line. Assumes nothing.
use mathlib.Core.Path.{◌≡◌, refl, ap}
use mathlib.Core.Bool.{Bool, true, false, not}
use mathlib.Core.List.{List}
use mathlib.Core.Logic.{◌⊎◌, inl, inr, ⊎_elim}
use Prim.Native.Nat.{ℕ, ◌+◌, ◌≤◌}
use native.Mathlib.Omega.{arith}
use lib.Dec.{eqb, ltb}
use lib.ListN.{length, drop}
use Rattle.letters.specs.Sizes.{outside}
use Rattle.letters.proofs.SizeLaws.{inside_most}
use Rattle.decimal.specs.CountLine.{count_at}
use Rattle.decimal.specs.declared.count.Counted.{Counted}
use Rattle.notation.specs.Alphabet.{Alphabet, alphabet_at}
use Rattle.notation.specs.Spelling.{LetterLine, AlphabetLine}
use Rattle.notation.specs.Wrong.{FirstWrong}
use Rattle.notation.specs.Reader.{out, Read, got, wrong, read_from}
use Rattle.notation.specs.declared.alphabet.Wrong.{Wrong}
use Rattle.notation.proofs.AlphabetWrong.{alphabet_first_wrong}
use Rattle.notation.proofs.LineWrong.{first_wrong}
use Rattle.sheet.specs.Reader.{refusal, refuse_at, and_then, on_count, on_alphabet, on_letters, Section, alphabet_section, letter_line, letter_section, pattern_bounds, text_bounds, text_section, string_sections, planning, Strings, reading}
use Rattle.std.specs.Prelude.{Option, None, Some, Result, Ok, Err}
use Rattle.decimal.specs.CountLine.{counted}
use Rattle.notation.specs.Alphabet.{wrong_at}
use Rattle.inputs.specs.Numbers.{number_of}
use Rattle.inputs.specs.declared.refusal.Kind.{Kind}
use Rattle.inputs.specs.declared.refusal.Kind.TheVariants.{AlphabetSize, Room, SheetLength, CountLine, AlphabetLine as NoAlphabet, LetterLine as NoLetters, LetterCount, Surplus}
use Rattle.inputs.specs.declared.refusal.Refusal.{Refusal}
use Rattle.sheet.specs.declared.sections.Bounds.{Bounds}
use Rattle.sheet.proofs.SectionLaws.{alphabet_section_found}

-- q is the first wrong byte of the line that follows the count line at the place at. Right says what a right line is, by the count
pub record WrongLine (Right : ℕ → List ℕ → Type 0) (s : List ℕ) (at q : ℕ) : Type 0 where
  pub count : ℕ
  pub from : ℕ
  pub counted : count_at at (drop at s) ≡ Some (counted count from)
  pub far : ℕ
  pub place : q ≡ from + far
  pub first : FirstWrong (Right count) (drop from s) far

-- the kind and the place of what is refused
kind_in : {A : Type 0} → Kind → Result A Refusal → Kind
kind_in k (Err r) = r.kind
kind_in k (Ok x) = k

place_in : {A : Type 0} → Result A Refusal → ℕ
place_in (Err r) = r.place
place_in (Ok x) = 0

module _ {A : Type 0} {x n : Kind} {y q : ℕ} (e : ◌≡◌ {A = Result A Refusal} (refusal x y) (refusal n q)) where
  same_kind : x ≡ n
  unfolding kind_in
  same_kind = ap (kind_in x) e

  same_place : y ≡ q
  unfolding place_in
  same_place = ap place_in e

-- kinds with different numbers
unlike : {x n : Kind} → (number_of x ≡ number_of n → ⊥) → x ≡ n → ⊥
unlike d e = d (ap number_of e)

-- a refusal is one of any other type too
refused_as : {A B : Type 0} → Refusal → Result A Refusal → Result B Refusal
refused_as d (Err r) = Err r
refused_as d (Ok x) = Err d

module _ {A : Type 0} (n : Kind) (q : ℕ) where
  -- a check of another kind did not refuse so
  past : (b : Bool) (x : Kind) (y : ℕ) (o : Result A Refusal) → (x ≡ n → ⊥) → refuse_at b x y o ≡ refusal n q → (b ≡ false) × (o ≡ refusal n q)
  unfolding refuse_at
  past true x y o d e = absurd (d (same_kind e))
  past false x y o d e = (refl, e)

  past_count : (r : Option Counted) (at : ℕ) (f : ℕ → ℕ → Result A Refusal) → (CountLine ≡ n → ⊥) → on_count r at f ≡ refusal n q → (v : ℕ) × (e : ℕ) × (r ≡ Some (counted v e)) × (f v e ≡ refusal n q)
  past_count None at f d e = absurd (d (same_kind e))
  past_count (Some c) at f d e = (c.number, c.next, refl, e)

  not_found : (w : A) → Ok w ≡ refusal n q → ⊥
  not_found w e = let z : ◌≡◌ {A = ℕ} 0 1 = cc in omega arith

module _ (q : ℕ) where
  at_alphabet : {A : Type 0} (r : Result ℕ Wrong) (f : ℕ → Result A Refusal) → ((e : ℕ) → f e ≡ refusal NoAlphabet q → ⊥) → on_alphabet r f ≡ refusal NoAlphabet q → r ≡ wrong_at q
  at_alphabet (Err w) f d e = ap wrong_at (same_place e)
  at_alphabet (Ok p) f d e = absurd (d p e)

  at_letters : {A : Type 0} (r : Read) (f : List ℕ → ℕ → Result A Refusal) → ((cs : List ℕ) (e : ℕ) → f cs e ≡ refusal NoLetters q → ⊥) → on_letters r f ≡ refusal NoLetters q → r ≡ wrong q
  at_letters (wrong p) f d e = ap wrong (same_place e)
  at_letters (got cs p) f d e = absurd (d cs p e)

pub alphabet_place : (K room : ℕ) (s : List ℕ) (q : ℕ) → K ≤ 91 → alphabet_section K room s ≡ refusal NoAlphabet q → WrongLine AlphabetLine s 0 q
unfolding alphabet_section
alphabet_place K room s q h e =
    let c = past_count NoAlphabet q (count_at 0 s) 0 _ (unlike (λ z. omega arith)) e in
    let k = c.0 in
    let a = c.1 in
    let d = past NoAlphabet q (outside 1 K k) AlphabetSize 0 _ (unlike (λ z. omega arith)) c.3 in
    let w = at_alphabet q (alphabet_at k a (drop a s)) _ (λ p z. not_found NoAlphabet q _ (past NoAlphabet q (ltb room k) Room 0 _ (unlike (λ y. omega arith)) z).1) d.1 in
    let few = inside_most 1 K k d.0 in
    let f = alphabet_first_wrong k a (drop a s) q (omega arith) w in
    record { count = k; from = a; counted = c.2; far = f.0; place = f.1; first = f.2 }

pub letter_place : (A : List ℕ) (b : Bounds) (s : List ℕ) (at q : ℕ) → Alphabet A → (b.kind ≡ NoLetters → ⊥) → letter_section A b s at ≡ refusal NoLetters q → WrongLine (λ _. LetterLine b.marks A) s at q
unfolding letter_section letter_line
letter_place A b s at q al n e =
    let c = past_count NoLetters q (count_at at (drop at s)) at _ (unlike (λ z. omega arith)) e in
    let m = c.0 in
    let p = c.1 in
    let d = past NoLetters q (outside b.least b.most m) b.kind at _ n c.3 in
    let w = at_letters q (read_from b.marks A out p (drop p s)) _
    (λ cs f z. not_found NoLetters q _ (past NoLetters q (ltb b.room m) Room 0 _ (unlike (λ y. omega arith)) (past NoLetters q (not (eqb (length cs) m)) LetterCount at _ (unlike (λ y. omega arith)) z).1).1)
    d.1 in
    let f = first_wrong b.marks A al (drop p s) p q w in
    record { count = m; from = p; counted = c.2; far = f.0; place = f.1; first = f.2 }

-- a section of letters is never refused with 12, nor the alphabet's with 13
module _ {A : Type 0} (q : ℕ) where
  letters_never : (r : Read) (f : List ℕ → ℕ → Result A Refusal) → ((cs : List ℕ) (e : ℕ) → f cs e ≡ refusal NoAlphabet q → ⊥) → on_letters r f ≡ refusal NoAlphabet q → ⊥
  letters_never (wrong p) f d e = unlike {x = NoLetters} {n = NoAlphabet} (λ z. omega arith) (same_kind e)
  letters_never (got cs p) f d e = d cs p e

  alphabet_never : (r : Result ℕ Wrong) (f : ℕ → Result A Refusal) → ((e : ℕ) → f e ≡ refusal NoLetters q → ⊥) → on_alphabet r f ≡ refusal NoLetters q → ⊥
  alphabet_never (Err w) f d e = unlike {x = NoAlphabet} {n = NoLetters} (λ z. omega arith) (same_kind e)
  alphabet_never (Ok p) f d e = d p e

letters_not_12 : (A : List ℕ) (b : Bounds) (s : List ℕ) (at q : ℕ) → (b.kind ≡ NoAlphabet → ⊥) → letter_section A b s at ≡ refusal NoAlphabet q → ⊥
unfolding letter_section letter_line
letters_not_12 A b s at q n e =
    let c = past_count NoAlphabet q (count_at at (drop at s)) at _ (unlike (λ z. omega arith)) e in
    let m = c.0 in
    let d = past NoAlphabet q (outside b.least b.most m) b.kind at _ n c.3 in
    letters_never q (read_from b.marks A out c.1 (drop c.1 s)) _
    (λ cs f z. not_found NoAlphabet q _ (past NoAlphabet q (ltb b.room m) Room 0 _ (unlike (λ y. omega arith)) (past NoAlphabet q (not (eqb (length cs) m)) LetterCount at _ (unlike (λ y. omega arith)) z).1).1)
    d.1

alphabet_not_13 : (K room : ℕ) (s : List ℕ) (q : ℕ) → alphabet_section K room s ≡ refusal NoLetters q → ⊥
unfolding alphabet_section
alphabet_not_13 K room s q e =
    let c = past_count NoLetters q (count_at 0 s) 0 _ (unlike (λ z. omega arith)) e in
    let k = c.0 in
    let d = past NoLetters q (outside 1 K k) AlphabetSize 0 _ (unlike (λ z. omega arith)) c.3 in
    alphabet_never q (alphabet_at k c.1 (drop c.1 s)) _ (λ p z. not_found NoLetters q _ (past NoLetters q (ltb room k) Room 0 _ (unlike (λ y. omega arith)) z).1) d.1

then_refused : {A B : Type 0} (o : Result A Refusal) (f : A → Result B Refusal) (n : Kind) (q : ℕ) → and_then o f ≡ refusal n q → (o ≡ refusal n q) ⊎ ((x : A) × (o ≡ Ok x) × (f x ≡ refusal n q))
unfolding refused_as
then_refused (Err r) f n q e = inl (ap (refused_as r) e)
then_refused (Ok x) f n q e = inr (x, refl, e)

-- a refusal with another kind than 10 and 15 is that of a section
module _ (n : Kind) (q : ℕ) (not10 : SheetLength ≡ n → ⊥) (not15 : Surplus ≡ n → ⊥) where
  text_refuses : (N : ℕ) (A : List ℕ) (room : ℕ) (s : List ℕ) (at : ℕ) → text_section N A room s at ≡ refusal n q → letter_section A (text_bounds N room) s at ≡ refusal n q
  unfolding text_section
  text_refuses N A room s at e =
      ⊎_elim (λ z. z) (λ t. absurd (not_found n q _ (past n q (ltb t.0.next (length s)) Surplus t.0.next _ not15 t.2).1))
      (then_refused (letter_section A (text_bounds N room) s at) _ n q e)

  -- the pattern's or, where that was found, the text's
  abbrev Strung : ℕ → ℕ → List ℕ → ℕ → ℕ → List ℕ → ℕ → Type 0
  Strung M N A roomP roomT s at =
      (letter_section A (pattern_bounds M roomP) s at ≡ refusal n q)
      ⊎ ((p : Section) × (letter_section A (pattern_bounds M roomP) s at ≡ Ok p) × (letter_section A (text_bounds N roomT) s p.next ≡ refusal n q))

  strings_refuse : (M N : ℕ) (A : List ℕ) (roomP roomT : ℕ) (s : List ℕ) (at : ℕ) → string_sections M N A roomP roomT s at ≡ refusal n q → Strung M N A roomP roomT s at
  unfolding string_sections
  strings_refuse M N A roomP roomT s at e =
      ⊎_elim inl
      (λ p. inr (p.0, p.1, ⊎_elim (text_refuses N A roomT s p.0.next) (λ t. absurd (not_found n q _ t.2)) (then_refused (text_section N A roomT s p.0.next) _ n q p.2)))
      (then_refused (letter_section A (pattern_bounds M roomP) s at) _ n q e)

  sheet_refuses : (B K M N : ℕ) (d : Strings) (s : List ℕ) → reading B K M N d s ≡ refusal n q
      → (alphabet_section K (length d.alphabet) s ≡ refusal n q)
      ⊎ ((a : Section) × (alphabet_section K (length d.alphabet) s ≡ Ok a) × Strung M N a.string (length d.pattern) (length d.text) s a.next)
  unfolding reading planning
  sheet_refuses B K M N d s e =
      let p = ⊎_elim (λ p. p) (λ w. absurd (not_found n q _ w.2)) (then_refused (planning B K M N (length d.alphabet) (length d.pattern) (length d.text) s) _ n q e) in
      ⊎_elim inl
      (λ a. inr (
        a.0,
        a.1,
        strings_refuse M N a.0.string (length d.pattern) (length d.text) s a.0.next
            (⊎_elim (λ z. z) (λ v. absurd (not_found n q _ v.2)) (then_refused (string_sections M N a.0.string (length d.pattern) (length d.text) s a.0.next) _ n q a.2)),
      ))
      (then_refused (alphabet_section K (length d.alphabet) s) _ n q (past n q (ltb B (length s)) SheetLength 0 _ not10 p).1)

module _ (B K M N : ℕ) (d : Strings) (s : List ℕ) (q : ℕ) where
  -- 12 names the first wrong byte of the alphabet line
  pub place_12 : K ≤ 91 → reading B K M N d s ≡ refusal NoAlphabet q → WrongLine AlphabetLine s 0 q
  place_12 h e =
      ⊎_elim (alphabet_place K (length d.alphabet) s q h)
      (λ a. absurd (⊎_elim (letters_not_12 a.0.string (pattern_bounds M (length d.pattern)) s a.0.next q (unlike (λ y. omega arith)))
      (λ p. letters_not_12 a.0.string (text_bounds N (length d.text)) s p.0.next q (unlike (λ y. omega arith)) p.2) a.2))
      (sheet_refuses NoAlphabet q (unlike (λ y. omega arith)) (unlike (λ y. omega arith)) B K M N d s e)

  -- 13 names the first wrong byte of the pattern's line, which has no marks, or, where that is right, of the text's, which may have them
  pub record Place13 : Type 0 where
    pub alphabet : Section
    pub listed : alphabet_section K (length d.alphabet) s ≡ Ok alphabet
    pub line : WrongLine (λ _. LetterLine false alphabet.string) s alphabet.next q
        ⊎ ((p : Section) × (letter_section alphabet.string (pattern_bounds M (length d.pattern)) s alphabet.next ≡ Ok p)
        × WrongLine (λ _. LetterLine true alphabet.string) s p.next q)

  pub place_13 : reading B K M N d s ≡ refusal NoLetters q → Place13
  place_13 e =
      ⊎_elim (λ a. absurd (alphabet_not_13 K (length d.alphabet) s q a))
      (λ a. let al = (alphabet_section_found K (length d.alphabet) s a.0 a.1).right in
      record {
        alphabet = a.0;
        listed = a.1;
        line = ⊎_elim (λ z. inl (letter_place a.0.string (pattern_bounds M (length d.pattern)) s a.0.next q al (unlike (λ y. omega arith)) z))
            (λ p. inr (p.0, p.1, letter_place a.0.string (text_bounds N (length d.text)) s p.0.next q al (unlike (λ y. omega arith)) p.2))
            a.2;
      })
      (sheet_refuses NoLetters q (unlike (λ y. omega arith)) (unlike (λ y. omega arith)) B K M N d s e)
