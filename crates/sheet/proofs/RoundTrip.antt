-- The reader accepts exactly the right sheets: what is read was written so, and what was written is read as it was. Assumes nothing.
use mathlib.Core.Path.{◌≡◌, refl, sym, ap, ap₂, ◌∙◌, subst}
use mathlib.Core.Bool.{true, false}
use mathlib.Core.List.{List, [], ◌∷◌, ◌++◌, append_assoc, append-nil}
use Prim.Native.Nat.{ℕ, suc, ◌+◌, ◌≤◌, ◌<◌}
use native.Mathlib.Omega.{arith}
use borrow.Author.Tests.{eq-eqb, le-ltb}
use lib.ListN.{length, drop, take, length-append, length-drop}
use lib.Seq.{drop-append_seam, take-append_seam, drop-drop, drop-length, take_at}
use Rattle.letters.proofs.SizeLaws.{inside}
use Rattle.decimal.specs.Decimal.{decimal}
use Rattle.decimal.specs.CountLine.{count_at}
use Rattle.decimal.proofs.CountLaws.{count_read, count_written}
use Rattle.inputs.specs.Refusals.{verdict}
use Rattle.notation.specs.Alphabet.{Alphabet, alphabet_at}
use Rattle.notation.specs.Spelling.{spell, line, AllProper}
use Rattle.notation.specs.Reader.{out, got, read_from}
use Rattle.notation.proofs.AlphabetLaws.{alphabet_read, alphabet_listed}
use Rattle.notation.proofs.SpelledLaws.{line_read}
use Rattle.notation.proofs.LineLaws.{read_line}
use Rattle.sheet.specs.Bytes.{sheet_bytes, Accepted, RightSheet}
use Rattle.sheet.specs.Reader.{refuse_at, Section, alphabet_section, letter_line, letter_section, pattern_bounds, text_bounds, text_section, string_sections, planning, Strings, reading}
use Rattle.std.specs.Prelude.{Some, Result, Ok}
use Rattle.decimal.specs.CountLine.{counted}
use Rattle.inputs.specs.declared.refusal.Refusal.{Refusal}
use Rattle.sheet.specs.declared.sections.Bounds.{Bounds}
use Rattle.sheet.proofs.SectionLaws.{LettersFound, reading_found}
use Rattle.sheet.proofs.AcceptLaws.{passing, passes}

-- past p bytes
on : (s : List ℕ) (at : ℕ) (p q : List ℕ) (e : ℕ) → drop at s ≡ p ++ q → e ≡ at + length p → drop e s ≡ q
on s at p q e h k = ap (λ (i : ℕ). drop i s) k ∙ sym (drop-drop (length p) at s) ∙ ap (drop (length p)) h ∙ drop-append_seam p q

-- past a line and its LF
on_line : (s : List ℕ) (at : ℕ) (p q : List ℕ) (e : ℕ) → drop at s ≡ p ++ (10 ∷ q) → e ≡ suc (at + length p) → drop e s ≡ q
on_line s at p q e h k = on s at (p ++ (10 ∷ [])) q e (h ∙ sym (append_assoc p (10 ∷ []) q)) (omega (arith, length-append p (10 ∷ [])))

line_pos : (A cs : List ℕ) → 0 < length (line A cs)
unfolding line
line_pos A [] = omega arith
line_pos A (c ∷ cs) = omega (arith, length-append (spell A c) (line A cs), line_pos A cs)

-- what a section of letters was
letters_line : (A : List ℕ) (b : Bounds) (s : List ℕ) (at : ℕ) (w : Section) → Alphabet A → LettersFound A b s at w
    → AllProper b.marks (length A) w.string × (drop at s ≡ decimal (length w.string) ++ (10 ∷ (line A w.string ++ drop w.next s)))
letters_line A b s at w al f =
    let cs = w.string in
    let c = count_written at (drop at s) (length cs) w.from f.counted in
    let r = read_line b.marks A (drop w.from s) w.from cs w.next f.reads in
    let hp : drop w.from s ≡ c.rest = on_line s at (decimal (length cs)) c.rest w.from c.bytes c.place in
    let he : drop w.next s ≡ r.1.0 = on s w.from (line A cs) r.1.0 w.next r.1.1 r.2 in
    (r.0, c.bytes ∙ ap (λ (ys : List ℕ). decimal (length cs) ++ (10 ∷ ys)) (sym hp ∙ r.1.1 ∙ ap (λ (ys : List ℕ). line A cs ++ ys) (sym he)))

abbrev Was : ℕ → ℕ → ℕ → ℕ → List ℕ → Strings → Type 0
Was B K M N s w = Accepted B K M N w.alphabet w.pattern w.text × (s ≡ sheet_bytes w.alphabet w.pattern w.text)

-- what is read was written so: writing what was read gives the same bytes
pub read_right : (B K M N : ℕ) (d : Strings) (s : List ℕ) (w : Strings) → reading B K M N d s ≡ Ok w → Was B K M N s w
unfolding sheet_bytes
read_right B K M N d s w q =
    let F = reading_found B K M N d s w q in
    let a = F.whole.alphabet in
    let A = a.string in
    let al = F.sections.alphabet in
    let both = F.sections.both in
    let p = F.whole.pattern in
    let t = F.whole.text in
    let c = count_written 0 s (length A) a.from al.counted in
    let l = alphabet_read (length A) a.from (drop a.from s) a.next al.listed in
    let is_a : A ≡ l.bytes = al.part ∙ ap (take (length A)) l.split ∙ take_at l.bytes (10 ∷ l.rest) (length A) l.size in
    let h1 : drop a.from s ≡ c.rest = on_line s 0 (decimal (length A)) c.rest a.from c.bytes c.place in
    let h2 : drop a.next s ≡ l.rest = on_line s a.from l.bytes l.rest a.next l.split (omega (arith, l.place, l.size)) in
    let P = letters_line A _ s a.next p al.right both.pattern in
    let T = letters_line A _ s p.next t al.right both.text in
    let none : drop t.next s ≡ [] = ap (λ (i : ℕ). drop i s) both.end ∙ drop-length s in
    let bytes : s ≡ sheet_bytes A p.string t.string
    = c.bytes
    ∙ ap (λ (ys : List ℕ). decimal (length A) ++ (10 ∷ ys)) (sym h1 ∙ l.split ∙ ap₂ (λ (xs ys : List ℕ). xs ++ (10 ∷ ys)) (sym is_a) (sym h2 ∙ P.1))
    ∙ ap (λ (ys : List ℕ). decimal (length A) ++ (10 ∷ (A ++ (10 ∷ (decimal (length p.string) ++ (10 ∷ (line A p.string ++ ys))))))) T.1
    ∙ ap (λ (ys : List ℕ). decimal (length A) ++ (10 ∷ (A ++ (10 ∷ (decimal (length p.string) ++ (10 ∷ (line A p.string ++ (decimal (length t.string) ++ (10 ∷ ys)))))))))
    (ap (λ (ys : List ℕ). line A t.string ++ ys) none ∙ append-nil (line A t.string))
    in
    subst (Was B K M N s) F.is (
      record {
        alphabet = al.right;
        passed = passes K M N (length A) p.string t.string (record {
          some = al.some;
          few = al.few;
          long = both.pattern.low;
          short = both.pattern.high;
          small = both.text.high;
          pattern = P.0;
          text = T.0;
        });
        fits = subst (λ (xs : List ℕ). length xs ≤ B) bytes F.sections.small;
      },
      bytes,
    )

-- the strings of a sheet that is read pass the checks of a search
pub read_accepted : (B K M N : ℕ) (d : Strings) (s : List ℕ) (w : Strings) → reading B K M N d s ≡ Ok w
    → verdict K M N (length w.alphabet) w.pattern w.text ≡ Ok tt
read_accepted B K M N d s w q = (read_right B K M N d s w q).0.passed

alphabet_section_lem : (K room : ℕ) (s : List ℕ) (k a e : ℕ) → count_at 0 s ≡ Some (counted k a) → 0 < k → k ≤ K → alphabet_at k a (drop a s) ≡ Ok e → k ≤ room
    → alphabet_section K room s ≡ Ok (record { string = take k (drop a s); from = a; next = e })
unfolding alphabet_section refuse_at
alphabet_section_lem K room s k a e c p m l r = rw (c, inside 1 K k p m, l, le-ltb room k r)

letter_section_lem : (A : List ℕ) (b : Bounds) (s : List ℕ) (at m p e : ℕ) (cs : List ℕ) → count_at at (drop at s) ≡ Some (counted m p) → b.least ≤ m → m ≤ b.most
    → read_from b.marks A out p (drop p s) ≡ got cs e → length cs ≡ m → m ≤ b.room
    → letter_section A b s at ≡ Ok (record { string = cs; from = p; next = e })
unfolding letter_section letter_line refuse_at
letter_section_lem A b s at m p e cs c l h r z f = rw (c, inside b.least b.most m l h, r, eq-eqb (length cs) m z, le-ltb b.room m f)

-- lists that are long enough
pub record Roomy (A P T : List ℕ) (d : Strings) : Type 0 where
  pub alphabet : length A ≤ length d.alphabet
  pub pattern : length P ≤ length d.pattern
  pub text : length T ≤ length d.text

-- what was written is read, where there is room: reading what was written gives the same strings
module _ (B K M N : ℕ) (fewK : K < 100000) (fewM : M < 100000) (fewN : N < 100000) where
  pub right_read : (A P T : List ℕ) (d : Strings) → Accepted B K M N A P T → Roomy A P T d
      → reading B K M N d (sheet_bytes A P T) ≡ Ok (record { alphabet = A; pattern = P; text = T })
  unfolding sheet_bytes reading planning string_sections text_section refuse_at
  right_read A P T d w room =
      let v = passing K M N (length A) P T w.passed in
      let s = sheet_bytes A P T in
      let k = length A in
      let s4 = decimal (length T) ++ (10 ∷ line A T) in
      let s3 = line A P ++ s4 in
      let s2 = decimal (length P) ++ (10 ∷ s3) in
      let s1 = A ++ (10 ∷ s2) in
      let a = suc (0 + length (decimal k)) in
      let c0 : count_at 0 s ≡ Some (counted k a) = count_read 0 k s1 (omega (arith, v.few)) in
      let h1 : drop a s ≡ s1 = on_line s 0 (decimal k) s1 a refl refl in
      let e = suc (a + k) in
      let l1 : alphabet_at k a (drop a s) ≡ Ok e = ap (alphabet_at k a) h1 ∙ alphabet_listed A a s2 w.alphabet in
      let A' = take k (drop a s) in
      let b1 : A' ≡ A = ap (take k) h1 ∙ take-append_seam A (10 ∷ s2) in
      let h2 : drop e s ≡ s2 = on_line s a A s2 e h1 refl in
      let p = suc (e + length (decimal (length P))) in
      let c2 : count_at e (drop e s) ≡ Some (counted (length P) p) = ap (count_at e) h2 ∙ count_read e (length P) s3 (omega (arith, v.short)) in
      let h3 : drop p s ≡ s3 = on_line s e (decimal (length P)) s3 p h2 refl in
      let f = p + length (line A P) in
      let r3 : read_from false A' out p (drop p s) ≡ got P f = ap₂ (λ (x y : List ℕ). read_from false x out p y) b1 h3 ∙ line_read false A w.alphabet P p s4 v.pattern in
      let h4 : drop f s ≡ s4 = on s p (line A P) s4 f h3 refl in
      let t = suc (f + length (decimal (length T))) in
      let c4 : count_at f (drop f s) ≡ Some (counted (length T) t) = ap (count_at f) h4 ∙ count_read f (length T) (line A T) (omega (arith, v.small)) in
      let h5 : drop t s ≡ line A T = on_line s f (decimal (length T)) (line A T) t h4 refl in
      let g = t + length (line A T) in
      let r5 : read_from true A' out t (drop t s) ≡ got T g = ap₂ (λ (x y : List ℕ). read_from true x out t y) b1 (h5 ∙ sym (append-nil (line A T))) ∙ line_read true A w.alphabet T t [] v.text in
      let fin : length s ≤ g = omega (arith, ap length h5, length-drop t s, line_pos A T) in
      let q1 = alphabet_section_lem K (length d.alphabet) s k a e c0 v.some v.few l1 room.alphabet in
      let q2 = letter_section_lem A' (pattern_bounds M (length d.pattern)) s e (length P) p f P c2 v.long v.short r3 refl room.pattern in
      let q3 = letter_section_lem A' (text_bounds N (length d.text)) s f (length T) t g T c4 (omega arith) v.small r5 refl room.text in
      rw (le-ltb B (length s) w.fits, q1, q2, q3, le-ltb g (length s) fin) (ap (λ (xs : List ℕ). Ok (record { alphabet = xs; pattern = P; text = T })) b1)

  -- every string has one spelling: two strings with the same sheet are the same
  pub one_spelling : (A P T A' P' T' : List ℕ) → Accepted B K M N A P T → Accepted B K M N A' P' T' → sheet_bytes A P T ≡ sheet_bytes A' P' T'
      → ◌≡◌ {A = Strings} (record { alphabet = A; pattern = P; text = T }) (record { alphabet = A'; pattern = P'; text = T' })
  one_spelling A P T A' P' T' w w' e =
      let d : Strings = record { alphabet = A ++ A'; pattern = P ++ P'; text = T ++ T' } in
      let x = right_read A P T d w (record { alphabet = omega (arith, length-append A A'); pattern = omega (arith, length-append P P'); text = omega (arith, length-append T T') }) in
      let y = right_read A' P' T' d w' (record { alphabet = omega (arith, length-append A A'); pattern = omega (arith, length-append P P'); text = omega (arith, length-append T T') }) in
      let z : ◌≡◌ {A = Result Strings Refusal} (Ok (record { alphabet = A; pattern = P; text = T })) (Ok (record { alphabet = A'; pattern = P'; text = T' }))
      = sym x ∙ ap (reading B K M N d) e ∙ y in
      cc

-- the reader accepts no sheet but the right ones
pub read_right_sheet : (B K M N : ℕ) (d : Strings) (s : List ℕ) (w : Strings) → reading B K M N d s ≡ Ok w → RightSheet B K M N s
read_right_sheet B K M N d s w q =
    let r = read_right B K M N d s w q in
    record { A = w.alphabet; P = w.pattern; T = w.text; accepted = r.0; bytes = r.1 }
