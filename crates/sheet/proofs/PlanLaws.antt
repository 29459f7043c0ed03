-- What the code's plan of a sheet says of the sheet. Assumes nothing.
use mathlib.Core.Path.{◌≡◌, refl, sym, ap, ap₂, ◌∙◌}
use mathlib.Core.Bool.{false}
use mathlib.Core.List.{List}
use Prim.Native.Nat.{ℕ, ◌≤◌}
use native.Mathlib.Omega.{arith}
use borrow.Author.Tests.{le-ltb}
use lib.ListN.{length, drop}
use Rattle.std.specs.Prelude.{Some, Result, Ok, Err}
use Rattle.letters.specs.Sizes.{outside}
use Rattle.decimal.specs.CountLine.{counted, count_at}
use Rattle.notation.specs.Alphabet.{alphabet_at}
use Rattle.notation.proofs.AlphabetLaws.{alphabet_size}
use Rattle.inputs.specs.declared.refusal.Refusal.{Refusal}
use Rattle.sheet.specs.Reader.{Section, Sections, refuse_at, alphabet_section, string_sections, planning}
use Rattle.sheet.specs.Answers.{place_of, found_of, both_of, planned_of}
use Rattle.sheet.specs.declared.sections.Section.{Section as Place}
use Rattle.sheet.specs.declared.sections.Both.{Both}
use Rattle.sheet.proofs.SectionLaws.{alphabet_section_found, lent, lent_is, AlphabetLent, alphabet_lent}

-- the alphabet's section, where each check passes
pub alphabet_at_lem : (K room : ℕ) (s : List ℕ) (k from : ℕ) → count_at 0 s ≡ Some (counted k from) → outside 1 K k ≡ false
    → (next : ℕ) → alphabet_at k from (drop from s) ≡ Ok next → k ≤ room → Ok (record { size = k; from = from; next = next }) ≡ found_of (alphabet_section K room s)
unfolding alphabet_section refuse_at
alphabet_at_lem K room s k from c i next e h = rw (c, i, e, le-ltb room k h) (ap sized (sym (alphabet_size k from (drop from s) next e)))
  where
    sized : ℕ → Result Place Refusal
    sized n = Ok (record { size = n; from = from; next = next })

-- a section that was found, from what the code says of it
pub found_is : (o : Result Section Refusal) (p : Place) → Ok p ≡ found_of o → (w : Section) × (o ≡ Ok w) × (p ≡ place_of w)
found_is (Err r) p e = absurd (let z : ◌≡◌ {A = ℕ} 0 1 = cc in omega arith)
found_is (Ok w) p e = (w, refl, (cc))

pub not_found : (o : Result Section Refusal) (r : Refusal) → Err r ≡ found_of o → o ≡ Err r
not_found (Err q) r e = (cc)
not_found (Ok w) r e = absurd (let z : ◌≡◌ {A = ℕ} 0 1 = cc in omega arith)

-- both sections
both_is : (o : Result Sections Refusal) (b : Both) → Ok b ≡ both_of o → (w : Sections) × (o ≡ Ok w) × (b ≡ record { pattern = place_of w.pattern; text = place_of w.text })
both_is (Err r) b e = absurd (let z : ◌≡◌ {A = ℕ} 0 1 = cc in omega arith)
both_is (Ok w) b e = (w, refl, (cc))

not_both : (o : Result Sections Refusal) (r : Refusal) → Err r ≡ both_of o → o ≡ Err r
not_both (Err q) r e = (cc)
not_both (Ok w) r e = absurd (let z : ◌≡◌ {A = ℕ} 0 1 = cc in omega arith)

-- the alphabet's section that was found, from what the code says of it
pub record AlphabetKnown (K room : ℕ) (s : List ℕ) (p : Place) : Type 0 where
  pub section : Section
  pub is : alphabet_section K room s ≡ Ok section
  pub place : p ≡ place_of section
  pub part : AlphabetLent K room s p.from p.size
  pub part_is : lent s p.from p.size ≡ section.string
  pub ends : p.next ≤ length s

pub alphabet_known : (K room : ℕ) (s : List ℕ) (p : Place) → Ok p ≡ found_of (alphabet_section K room s) → AlphabetKnown K room s p
alphabet_known K room s p e =
    let w = found_is (alphabet_section K room s) p e in
    let f = alphabet_section_found K room s w.0 w.1 in
    record {
      section = w.0;
      is = w.1;
      place = w.2;
      part = alphabet_lent f (sym (ap (λ (x : Place). x.size) w.2)) (sym (ap (λ (x : Place). x.from) w.2));
      part_is = lent_is f (sym (ap (λ (x : Place). x.size) w.2)) (sym (ap (λ (x : Place). x.from) w.2));
      ends = omega (arith, f.next, ap (λ (x : Place). x.next) w.2);
    }

module _ (B K M N roomA roomP roomT : ℕ) (s : List ℕ) (small : length s ≤ B) (p : Place) (a : AlphabetKnown K roomA s p) where
  -- what the code finds from the alphabet that is lent
  abbrev both : Result Both Refusal
  both = both_of (string_sections M N (lent s p.from p.size) roomP roomT s p.next)

  same : both ≡ both_of (string_sections M N a.section.string roomP roomT s a.section.next)
  same = ap₂ (λ (A : List ℕ) (e : ℕ). both_of (string_sections M N A roomP roomT s e)) a.part_is (ap (λ (x : Place). x.next) a.place)

  pub strings_refused : (r : Refusal) → Err r ≡ both → Err r ≡ planned_of (planning B K M N roomA roomP roomT s)
  unfolding planning refuse_at
  strings_refused r e = rw (le-ltb B (length s) small, a.is, not_both _ r (e ∙ same))

  pub whole : (b : Both) → Ok b ≡ both → Ok (record { alphabet = p; pattern = b.pattern; text = b.text }) ≡ planned_of (planning B K M N roomA roomP roomT s)
  unfolding planning refuse_at
  whole b e =
      let w = both_is _ b (e ∙ same) in
      let x = a.place in
      let y = w.2 in
      rw (le-ltb B (length s) small, a.is, w.1) (cc)
