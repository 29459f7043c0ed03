-- How much room a reading is given does not matter, if it is enough; and then it is never refused with 8. Assumes nothing.
use Prim.Native.Nat.{ℕ, ◌≤◌}
use mathlib.Core.Path.{◌≡◌, refl, ap, subst}
use mathlib.Core.Bool.{Bool, true, false, not}
use mathlib.Core.List.{List, ◌∷◌}
use native.Mathlib.Omega.{arith}
use borrow.Author.Tests.{le-ltb, ltb-false, eqb-true, not-false}
use lib.Dec.{eqb, ltb}
use lib.ListN.{length, drop, length-append, length-drop}
use Rattle.letters.specs.Sizes.{outside}
use Rattle.letters.proofs.SizeLaws.{inside_most}
use Rattle.decimal.specs.CountLine.{count_at}
use Rattle.decimal.specs.declared.count.Counted.{Counted}
use Rattle.notation.specs.Alphabet.{alphabet_at}
use Rattle.notation.specs.Reader.{out, Read, got, wrong, read_from}
use Rattle.notation.specs.declared.alphabet.Wrong.{Wrong}
use Rattle.notation.proofs.AlphabetLaws.{alphabet_read}
use Rattle.notation.proofs.ReadLaws.{read_in}
use Rattle.std.specs.Prelude.{Option, None, Some, Result, Ok, Err}
use Rattle.inputs.specs.declared.refusal.Kind.{Kind}
use Rattle.inputs.specs.declared.refusal.Kind.TheVariants.{AlphabetSize, PatternLength, TextLength, Room, SheetLength, CountLine, AlphabetLine, LetterLine, LetterCount, Surplus}
use Rattle.inputs.specs.declared.refusal.Refusal.{Refusal}
use Rattle.inputs.specs.Numbers.{number_of}
use Rattle.sheet.specs.Reader.{refusal, refuse_at, and_then, on_count, on_alphabet, on_letters, alphabet_section, letter_line, letter_section, text_section, string_sections, planning, Strings, reading}

-- an alphabet has no more letters than the sheet has bytes
alphabet_short : (k from next : ℕ) (s : List ℕ) → alphabet_at k from (drop from s) ≡ Ok next → k ≤ length s
alphabet_short k from next s q =
    let l = alphabet_read k from (drop from s) next q in
    omega (arith, l.size, ap length l.split, length-append l.bytes (10 ∷ l.rest), length-drop from s)

-- two outcomes are the same, and not a refusal with 8
abbrev Alike : {A : Type 0} → Result A Refusal → Result A Refusal → Type 0
Alike o o' = (o ≡ o') × ((place : ℕ) → o ≡ refusal Room place → ⊥)

module _ {A : Type 0} where
  other_kind : (x : Kind) (y p : ℕ) → (number_of x ≡ 8 → ⊥) → ◌≡◌ {A = Result A Refusal} (refusal x y) (refusal Room p) → ⊥
  other_kind x y p n e =
      let q : ◌≡◌ {A = Refusal} (record { kind = x; place = y }) (record { kind = Room; place = p }) = cc in
      n (ap (λ (r : Refusal). number_of r.kind) q)

  found_not : (w : A) (p : ℕ) → Ok w ≡ refusal Room p → ⊥
  found_not w p e = let z : ◌≡◌ {A = ℕ} 0 1 = cc in omega arith

  alike_refuse : (b : Bool) (x : Kind) (y : ℕ) (o o' : Result A Refusal) → (number_of x ≡ 8 → ⊥) → (b ≡ false → Alike o o') → Alike (refuse_at b x y o) (refuse_at b x y o')
  unfolding refuse_at
  alike_refuse true x y o o' n h = (refl, λ p e. other_kind x y p n e)
  alike_refuse false x y o o' n h = h refl

  -- room enough in both
  alike_room : (r r' k : ℕ) (w : A) → (k ≤ r) × (k ≤ r') → Alike (refuse_at (ltb r k) Room 0 (Ok w)) (refuse_at (ltb r' k) Room 0 (Ok w))
  unfolding refuse_at
  alike_room r r' k w h = rw (le-ltb r k h.0, le-ltb r' k h.1) (refl, λ p e. found_not w p e)

  alike_count : (r : Option Counted) (at : ℕ) (f g : ℕ → ℕ → Result A Refusal) → ((n e : ℕ) → Alike (f n e) (g n e)) → Alike (on_count r at f) (on_count r at g)
  alike_count None at f g h = (refl, λ p e. other_kind CountLine at p (λ z. omega arith) e)
  alike_count (Some c) at f g h = h c.number c.next

  alike_alphabet : (r : Result ℕ Wrong) (f g : ℕ → Result A Refusal) → ((e : ℕ) → r ≡ Ok e → Alike (f e) (g e)) → Alike (on_alphabet r f) (on_alphabet r g)
  alike_alphabet (Err w) f g h = (refl, λ p e. other_kind AlphabetLine w.place p (λ z. omega arith) e)
  alike_alphabet (Ok e) f g h = h e refl

  alike_letters : (r : Read) (f g : List ℕ → ℕ → Result A Refusal) → ((cs : List ℕ) (e : ℕ) → r ≡ got cs e → Alike (f cs e) (g cs e)) → Alike (on_letters r f) (on_letters r g)
  alike_letters (wrong q) f g h = (refl, λ p e. other_kind LetterLine q p (λ z. omega arith) e)
  alike_letters (got cs e) f g h = h cs e refl

module _ {A B : Type 0} where
  then_refused : (r : Refusal) (f : A → Result B Refusal) → ((p : ℕ) → ◌≡◌ {A = Result A Refusal} (Err r) (refusal Room p) → ⊥) → (p : ℕ) → and_then (Err r) f ≡ refusal Room p → ⊥
  then_refused r f n p e =
      let q : r ≡ record { kind = Room; place = p } = cc in
      n p (ap Err q)

  then_same : (o : Result A Refusal) (f g : A → Result B Refusal) → ((p : ℕ) → o ≡ refusal Room p → ⊥) → ((x : A) → Alike (f x) (g x)) → Alike (and_then o f) (and_then o g)
  then_same (Err r) f g n h = (refl, then_refused r f n)
  then_same (Ok x) f g n h = h x

  alike_then : (o o' : Result A Refusal) (f g : A → Result B Refusal) → Alike o o' → ((x : A) → Alike (f x) (g x)) → Alike (and_then o f) (and_then o' g)
  alike_then o o' f g a h = subst (λ (z : Result A Refusal). Alike (and_then o f) (and_then z g)) a.0 (then_same o f g a.1 h)

module _ (s : List ℕ) where
  alphabet_alike : (K r r' : ℕ) → ((k : ℕ) → k ≤ K → k ≤ length s → (k ≤ r) × (k ≤ r')) → Alike (alphabet_section K r s) (alphabet_section K r' s)
  unfolding alphabet_section
  alphabet_alike K r r' room =
      alike_count (count_at 0 s) 0 _ _ (λ k from.
      alike_refuse (outside 1 K k) AlphabetSize 0 _ _ (λ z. omega arith) (λ b.
      alike_alphabet (alphabet_at k from (drop from s)) _ _ (λ next l.
      alike_room r r' k _ (room k (inside_most 1 K k b) (alphabet_short k from next s l)))))

  letters_alike : (A : List ℕ) (marks : Bool) (least most : ℕ) (kind : Kind) (r r' at : ℕ) → (number_of kind ≡ 8 → ⊥) → ((m : ℕ) → m ≤ most → m ≤ length s → (m ≤ r) × (m ≤ r'))
      → Alike (letter_section A (record { least = least; most = most; kind = kind; marks = marks; room = r }) s at) (letter_section A (record { least = least; most = most; kind = kind; marks = marks; room = r' }) s at)
  unfolding letter_section letter_line
  letters_alike A marks least most kind r r' at n room =
      alike_count (count_at at (drop at s)) at _ _ (λ m from.
      alike_refuse (outside least most m) kind at _ _ n (λ b.
      alike_letters (read_from marks A out from (drop from s)) _ _ (λ cs next l.
      alike_refuse (not (eqb (length cs) m)) LetterCount at _ _ (λ z. omega arith) (λ d.
      let e : length cs ≡ m = eqb-true (length cs) m (not-false (eqb (length cs) m) d) in
      let w = read_in marks A (drop from s) out from cs next l in
      alike_room r r' m _ (room m (inside_most least most m b) (omega (arith, w.0, w.1, length-drop from s)))))))

-- lists that no section of the sheet s is too long for
pub record Ample (K M : ℕ) (s : List ℕ) (d : Strings) : Type 0 where
  pub alphabet : (k : ℕ) → k ≤ K → k ≤ length s → k ≤ length d.alphabet
  pub pattern : (m : ℕ) → m ≤ M → m ≤ length s → m ≤ length d.pattern
  pub text : length s ≤ length d.text

module _ (B K M N : ℕ) (s : List ℕ) (d d' : Strings) (ample : length s ≤ B → Ample K M s d × Ample K M s d') where
  strings_alike : length s ≤ B → (A : List ℕ) (at : ℕ)
      → Alike (string_sections M N A (length d.pattern) (length d.text) s at) (string_sections M N A (length d'.pattern) (length d'.text) s at)
  unfolding string_sections text_section
  strings_alike small A at =
      let w = ample small in
      alike_then _ _ _ _ (letters_alike s A false 1 M PatternLength (length d.pattern) (length d'.pattern) at (λ z. omega arith) (λ m h l. (w.0.pattern m h l, w.1.pattern m h l))) (λ p.
      alike_then _ _ _ _
      (alike_then _ _ _ _ (letters_alike s A true 0 N TextLength (length d.text) (length d'.text) p.next (λ z. omega arith) (λ n h l. (omega (arith, w.0.text), omega (arith, w.1.text)))) (λ t.
      alike_refuse (ltb t.next (length s)) Surplus t.next _ _ (λ z. omega arith) (λ b. (refl, λ q e. found_not _ q e))))
      (λ t. (refl, λ q e. found_not _ q e)))

  planning_alike : Alike (planning B K M N (length d.alphabet) (length d.pattern) (length d.text) s) (planning B K M N (length d'.alphabet) (length d'.pattern) (length d'.text) s)
  unfolding planning
  planning_alike =
      alike_refuse (ltb B (length s)) SheetLength 0 _ _ (λ z. omega arith) (λ b.
      let small : length s ≤ B = ltb-false B (length s) b in
      let w = ample small in
      alike_then _ _ _ _ (alphabet_alike s K (length d.alphabet) (length d'.alphabet) (λ k h l. (w.0.alphabet k h l, w.1.alphabet k h l))) (λ a.
      alike_then _ _ _ _ (strings_alike small a.string a.next) (λ v. (refl, λ q e. found_not _ q e))))

  reading_alike : Alike (reading B K M N d s) (reading B K M N d' s)
  unfolding reading
  reading_alike = alike_then _ _ _ _ planning_alike (λ w. (refl, λ q e. found_not _ q e))

  -- the reading is the same
  pub same_reading : reading B K M N d s ≡ reading B K M N d' s
  same_reading = reading_alike.0

  -- and not refused with 8
  pub never_eight : (place : ℕ) → reading B K M N d s ≡ refusal Room place → ⊥
  never_eight = reading_alike.1
