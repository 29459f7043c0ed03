-- What a section that was found says of the sheet. Assumes nothing.
use mathlib.Core.Path.{◌≡◌, refl, sym, ap, ap₂, ◌∙◌, subst}
use mathlib.Core.Bool.{Bool, true, false, not}
use mathlib.Core.List.{List, ◌∷◌}
use Prim.Native.Nat.{ℕ, ◌+◌, ◌-◌, ◌≤◌, ◌<◌}
use native.Mathlib.Omega.{arith}
use borrow.Author.Tests.{eqb-true, ltb-false, not-false}
use lib.Dec.{eqb, ltb}
use lib.ListN.{length, drop, take, length-append, length-drop}
use lib.Seq.{take_at}
use Rattle.letters.specs.Sizes.{outside}
use Rattle.letters.proofs.SizeLaws.{inside_least, inside_most}
use Rattle.decimal.specs.CountLine.{count_at}
use Rattle.decimal.specs.declared.count.Counted.{Counted}
use Rattle.decimal.proofs.CountLaws.{count_within}
use Rattle.notation.specs.Alphabet.{Alphabet, alphabet_at}
use Rattle.notation.specs.Reader.{out, Read, got, wrong, read_from}
use Rattle.notation.specs.declared.alphabet.Wrong.{Wrong}
use Rattle.notation.proofs.AlphabetLaws.{alphabet_read}
use Rattle.notation.proofs.ReadLaws.{read_in}
use Rattle.sheet.specs.Reader.{refuse_at, and_then, on_count, on_alphabet, on_letters, Section, alphabet_section, letter_line, letter_section, pattern_bounds, text_bounds, text_section, Sections, string_sections, Whole, planning, Strings, reading}
use Rattle.std.specs.Prelude.{Option, None, Some, Result, Ok, Err}
use Rattle.decimal.specs.CountLine.{counted}
use Rattle.inputs.specs.declared.refusal.Kind.{Kind}
use Rattle.inputs.specs.declared.refusal.Kind.TheVariants.{AlphabetSize, Room, SheetLength, LetterCount, Surplus}
use Rattle.inputs.specs.declared.refusal.Refusal.{Refusal}
use Rattle.sheet.specs.declared.sections.Bounds.{Bounds}

module _ {A : Type 0} where
  refuse_found : (b : Bool) (x : Kind) (y : ℕ) (o : Result A Refusal) (w : A) → refuse_at b x y o ≡ Ok w → (b ≡ false) × (o ≡ Ok w)
  unfolding refuse_at
  refuse_found true x y o w q = absurd (let z : ◌≡◌ {A = ℕ} 0 1 = cc in omega arith)
  refuse_found false x y o w q = (refl, q)

  count_found : (r : Option Counted) (at : ℕ) (f : ℕ → ℕ → Result A Refusal) (w : A) → on_count r at f ≡ Ok w → (v : ℕ) × (e : ℕ) × (r ≡ Some (counted v e)) × (f v e ≡ Ok w)
  count_found None at f w q = absurd (let z : ◌≡◌ {A = ℕ} 0 1 = cc in omega arith)
  count_found (Some c) at f w q = (c.number, c.next, refl, q)

  alphabet_found : (r : Result ℕ Wrong) (f : ℕ → Result A Refusal) (w : A) → on_alphabet r f ≡ Ok w → (e : ℕ) × (r ≡ Ok e) × (f e ≡ Ok w)
  alphabet_found (Err p) f w q = absurd (let z : ◌≡◌ {A = ℕ} 0 1 = cc in omega arith)
  alphabet_found (Ok e) f w q = (e, refl, q)

  letters_found : (r : Read) (f : List ℕ → ℕ → Result A Refusal) (w : A) → on_letters r f ≡ Ok w → (cs : List ℕ) × (e : ℕ) × (r ≡ got cs e) × (f cs e ≡ Ok w)
  letters_found (wrong p) f w q = absurd (let z : ◌≡◌ {A = ℕ} 0 1 = cc in omega arith)
  letters_found (got cs e) f w q = (cs, e, refl, q)

then_found : {A B : Type 0} (o : Result A Refusal) (f : A → Result B Refusal) (w : B) → and_then o f ≡ Ok w → (x : A) × (o ≡ Ok x) × (f x ≡ Ok w)
then_found (Err r) f w q = absurd (let z : ◌≡◌ {A = ℕ} 0 1 = cc in omega arith)
then_found (Ok x) f w q = (x, refl, q)

pub record AlphabetFound (K room : ℕ) (s : List ℕ) (w : Section) : Type 0 where
  pub counted : count_at 0 s ≡ Some (counted (length w.string) w.from)
  pub some : 0 < length w.string
  pub few : length w.string ≤ K
  pub listed : alphabet_at (length w.string) w.from (drop w.from s) ≡ Ok w.next
  pub fits : length w.string ≤ room
  pub part : w.string ≡ take (length w.string) (drop w.from s)
  pub right : Alphabet w.string
  pub within : w.from + length w.string < length s
  pub next : w.next ≤ length s

pub alphabet_section_found : (K room : ℕ) (s : List ℕ) (w : Section) → alphabet_section K room s ≡ Ok w → AlphabetFound K room s w
unfolding alphabet_section
alphabet_section_found K room s w q =
    let c = count_found (count_at 0 s) 0 _ w q in
    let k = c.0 in
    let a = c.1 in
    let d = refuse_found (outside 1 K k) AlphabetSize 0 _ w c.3 in
    let l = alphabet_found (alphabet_at k a (drop a s)) _ w d.1 in
    let e = l.0 in
    let r = refuse_found (ltb room k) Room 0 _ w l.2 in
    let is : record { string = take k (drop a s); from = a; next = e } ≡ w = cc in
    let lo = inside_least 1 K k d.0 in
    let hi = inside_most 1 K k d.0 in
    let kr = ltb-false room k r.0 in
    let ae = count_within 0 s k a (omega arith) c.2 in
    let L = alphabet_read k a (drop a s) e l.1 in
    let t : take k (drop a s) ≡ L.bytes = ap (take k) L.split ∙ take_at L.bytes (10 ∷ L.rest) k L.size in
    let n : length (take k (drop a s)) ≡ k = ap length t ∙ L.size in
    let dl = length-drop a s in
    let sl = ap length L.split ∙ length-append L.bytes (10 ∷ L.rest) in
    subst (AlphabetFound K room s) is
    (record {
      counted = c.2 ∙ ap (λ (x : ℕ). Some (counted x a)) (sym n);
      some = omega arith;
      few = omega arith;
      listed = ap (λ (x : ℕ). alphabet_at x a (drop a s)) n ∙ l.1;
      fits = omega arith;
      part = ap (λ (x : ℕ). take x (drop a s)) (sym n);
      right = subst Alphabet (sym t) L.right;
      within = omega (arith, L.size);
      next = omega (arith, L.size, L.place);
    })

-- the part of a sheet that a slice of k bytes from a place lends
abbrev pub lent : List ℕ → ℕ → ℕ → List ℕ
lent s from k = take (from + k - from) (drop from s)

-- the alphabet as a lent part
pub record AlphabetLent (K room : ℕ) (s : List ℕ) (from k : ℕ) : Type 0 where
  pub within : from + k ≤ length s
  pub size : length (lent s from k) ≡ k
  pub some : 0 < length (lent s from k)
  pub few : length (lent s from k) ≤ K
  pub fits : length (lent s from k) ≤ room

span : (x y : ℕ) → x + y - x ≡ y
span x y = omega arith

module _ {K room : ℕ} {s : List ℕ} {w : Section} (f : AlphabetFound K room s w) {k from : ℕ} (size : length w.string ≡ k) (begins : w.from ≡ from) where
  pub lent_is : lent s from k ≡ w.string
  lent_is = ap (λ (x : ℕ). take x (drop from s)) (span from k) ∙ ap₂ (λ (x y : ℕ). take x (drop y s)) (sym size) (sym begins) ∙ sym f.part

  pub alphabet_lent : AlphabetLent K room s from k
  alphabet_lent =
      let n = ap length lent_is in
      record {
        within = omega (arith, f.within);
        size = n ∙ size;
        some = omega (arith, f.some);
        few = omega (arith, f.few);
        fits = omega (arith, f.fits);
      }

pub record LettersFound (A : List ℕ) (b : Bounds) (s : List ℕ) (at : ℕ) (w : Section) : Type 0 where
  pub counted : count_at at (drop at s) ≡ Some (counted (length w.string) w.from)
  pub low : b.least ≤ length w.string
  pub high : length w.string ≤ b.most
  pub reads : read_from b.marks A out w.from (drop w.from s) ≡ got w.string w.next
  pub fits : length w.string ≤ b.room
  pub within : w.from ≤ length s
  pub next : w.next ≤ length s

pub letter_section_found : (A : List ℕ) (b : Bounds) (s : List ℕ) (at : ℕ) (w : Section) → at ≤ length s → letter_section A b s at ≡ Ok w → LettersFound A b s at w
unfolding letter_section letter_line
letter_section_found A b s at w h q =
    let c = count_found (count_at at (drop at s)) at _ w q in
    let m = c.0 in
    let p = c.1 in
    let d = refuse_found (outside b.least b.most m) b.kind at _ w c.3 in
    let l = letters_found (read_from b.marks A out p (drop p s)) _ w d.1 in
    let cs = l.0 in
    let e = l.1 in
    let f = refuse_found (not (eqb (length cs) m)) LetterCount at _ w l.3 in
    let r = refuse_found (ltb b.room m) Room 0 _ w f.1 in
    let is : record { string = cs; from = p; next = e } ≡ w = cc in
    let n : length cs ≡ m = eqb-true (length cs) m (not-false (eqb (length cs) m) f.0) in
    let pe = count_within at s m p h c.2 in
    subst (LettersFound A b s at) is
    (record {
      counted = c.2 ∙ ap (λ (x : ℕ). Some (counted x p)) (sym n);
      low = omega (arith, inside_least b.least b.most m d.0);
      high = omega (arith, inside_most b.least b.most m d.0);
      reads = l.2;
      fits = omega (arith, ltb-false b.room m r.0);
      within = pe;
      next = omega (arith, read_in b.marks A (drop p s) out p cs e l.2, length-drop p s);
    })

pub record BothFound (M N : ℕ) (A : List ℕ) (roomP roomT : ℕ) (s : List ℕ) (at : ℕ) (w : Sections) : Type 0 where
  pub pattern : LettersFound A (pattern_bounds M roomP) s at w.pattern
  pub text : LettersFound A (text_bounds N roomT) s w.pattern.next w.text
  pub end : w.text.next ≡ length s

pub string_sections_found : (M N : ℕ) (A : List ℕ) (roomP roomT : ℕ) (s : List ℕ) (at : ℕ) (w : Sections) → at ≤ length s
    → string_sections M N A roomP roomT s at ≡ Ok w → BothFound M N A roomP roomT s at w
unfolding string_sections text_section
string_sections_found M N A roomP roomT s at w h q =
    let x = then_found (letter_section A (pattern_bounds M roomP) s at) _ w q in
    let p = x.0 in
    let y = then_found (text_section N A roomT s p.next) _ w x.2 in
    let u = y.0 in
    let v = then_found (letter_section A (text_bounds N roomT) s p.next) _ u y.1 in
    let t = v.0 in
    let z = refuse_found (ltb t.next (length s)) Surplus t.next _ u v.2 in
    let is : record { pattern = p; text = t } ≡ w = cc in
    let P = letter_section_found A (pattern_bounds M roomP) s at p h x.1 in
    let T = letter_section_found A (text_bounds N roomT) s p.next t P.next v.1 in
    let l = ltb-false t.next (length s) z.0 in
    subst (BothFound M N A roomP roomT s at) is (record { pattern = P; text = T; end = omega (arith, T.next) })

-- a whole sheet: its sections, for lists with so much room
pub record WholeFound (B K M N roomA roomP roomT : ℕ) (s : List ℕ) (w : Whole) : Type 0 where
  pub small : length s ≤ B
  pub alphabet : AlphabetFound K roomA s w.alphabet
  pub both : BothFound M N w.alphabet.string roomP roomT s w.alphabet.next (record { pattern = w.pattern; text = w.text })

pub planning_found : (B K M N roomA roomP roomT : ℕ) (s : List ℕ) (w : Whole) → planning B K M N roomA roomP roomT s ≡ Ok w → WholeFound B K M N roomA roomP roomT s w
unfolding planning
planning_found B K M N roomA roomP roomT s w q =
    let b = refuse_found (ltb B (length s)) SheetLength 0 _ w q in
    let x = then_found (alphabet_section K roomA s) _ w b.1 in
    let a = x.0 in
    let A = alphabet_section_found K roomA s a x.1 in
    let y = then_found (string_sections M N a.string roomP roomT s a.next) _ w x.2 in
    let v = y.0 in
    let is : record { alphabet = a; pattern = v.pattern; text = v.text } ≡ w = cc in
    subst (WholeFound B K M N roomA roomP roomT s) is
    (record {
      small = ltb-false B (length s) b.0;
      alphabet = A;
      both = string_sections_found M N a.string roomP roomT s a.next v A.next y.1;
    })

-- a sheet that was read
pub record ReadFound (B K M N : ℕ) (d : Strings) (s : List ℕ) (w : Strings) : Type 0 where
  pub whole : Whole
  pub sections : WholeFound B K M N (length d.alphabet) (length d.pattern) (length d.text) s whole
  pub is : record { alphabet = whole.alphabet.string; pattern = whole.pattern.string; text = whole.text.string } ≡ w

pub reading_found : (B K M N : ℕ) (d : Strings) (s : List ℕ) (w : Strings) → reading B K M N d s ≡ Ok w → ReadFound B K M N d s w
unfolding reading
reading_found B K M N d s w q =
    let x = then_found (planning B K M N (length d.alphabet) (length d.pattern) (length d.text) s) _ w q in
    let v = x.0 in
    record {
      whole = v;
      sections = planning_found B K M N _ _ _ s v x.1;
      is = (let e : Ok (record { alphabet = v.alphabet.string; pattern = v.pattern.string; text = v.text.string }) ≡ Ok w = x.2 in cc);
    }
