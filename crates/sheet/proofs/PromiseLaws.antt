-- The promise of the reader, by the plan of the sheet: what a plan says of the sheet, and what is answered and left by it. Assumes nothing.
use mathlib.Core.Path.{◌≡◌, refl, sym, ap, ◌∙◌, subst}
use mathlib.Core.Bool.{Bool, true, false}
use mathlib.Core.List.{List}
use Prim.Native.Nat.{ℕ, ◌≤◌}
use native.Mathlib.Omega.{arith}
use lib.ListN.{length, drop}
use Rattle.lent.specs.Over.{over}
use Rattle.inputs.specs.declared.refusal.Refusal.{Refusal}
use Rattle.notation.specs.Reader.{out, Read, got, read_from}
use Rattle.notation.specs.Answers.{letters_of, Room}
use Rattle.sheet.specs.Reader.{Section, Whole, planning, Strings, reading}
use Rattle.sheet.specs.Answers.{plan_of, planned_of, taken_of, left_of, ReadInto, Measured}
use Rattle.sheet.specs.declared.sections.Bounds.{Bounds}
use Rattle.std.specs.Prelude.{Result, Ok, Err}
use Rattle.sheet.specs.declared.plan.Planned.{Planned}
use Rattle.sheet.specs.declared.Sizes.{Sizes}
use Rattle.sheet.proofs.SectionLaws.{lent, AlphabetLent, lent_is, alphabet_lent, LettersFound, planning_found}

-- what is read from a place over the alphabet that a plan lends, where marks may stand or not
abbrev line_in : Bool → List ℕ → Planned → ℕ → Read
line_in marks s p from = read_from marks (lent s p.alphabet.from p.alphabet.size) out from (drop from s)

-- a line that lies in the sheet, whose n letters have room
pub record LineFound (marks : Bool) (s : List ℕ) (p : Planned) (from n room : ℕ) : Type 0 where
  pub within : from ≤ length s
  pub fits : Room (line_in marks s p from) room
  pub size : length (letters_of (line_in marks s p from)) ≡ n

-- the strings of a plan
abbrev strings_in : List ℕ → Planned → Strings
strings_in s p =
    record { alphabet = lent s p.alphabet.from p.alphabet.size; pattern = letters_of (line_in false s p p.pattern.from); text = letters_of (line_in true s p p.text.from) }

-- what the plan p of the sheet s for the lent lists d says
pub record LinesFound (B K M N : ℕ) (s : List ℕ) (d : Strings) (p : Planned) : Type 0 where
  pub reads : reading B K M N d s ≡ Ok (strings_in s p)
  pub alphabet : AlphabetLent K (length d.alphabet) s p.alphabet.from p.alphabet.size
  pub pattern : LineFound false s p p.pattern.from p.pattern.size (length d.pattern)
  pub text : LineFound true s p p.text.from p.text.size (length d.text)

planned_is : (o : Result Whole Refusal) (p : Planned) → Ok p ≡ planned_of o → (w : Whole) × (o ≡ Ok w) × (plan_of w ≡ p)
planned_is (Err r) p e = absurd (let z : ◌≡◌ {A = ℕ} 0 1 = cc in omega arith)
planned_is (Ok w) p e = (w, refl, (cc))

unplanned : (o : Result Whole Refusal) (r : Refusal) → Err r ≡ planned_of o → o ≡ Err r
unplanned (Err q) r e = (cc)
unplanned (Ok w) r e = absurd (let z : ◌≡◌ {A = ℕ} 0 1 = cc in omega arith)

-- a section of letters is a line of the plan
module _ (s : List ℕ) (p : Planned) {A : List ℕ} {b : Bounds} {at : ℕ} {w : Section} (is : lent s p.alphabet.from p.alphabet.size ≡ A) (f : LettersFound A b s at w) where
  line_reads : line_in b.marks s p w.from ≡ got w.string w.next
  line_reads = ap (λ (X : List ℕ). read_from b.marks X out w.from (drop w.from s)) is ∙ f.reads

  line_found : LineFound b.marks s p w.from (length w.string) b.room
  line_found =
      record {
        within = f.within;
        fits = record { letters = w.string; next = w.next; reads = line_reads; room = f.fits };
        size = ap (λ (r : Read). length (letters_of r)) line_reads;
      }

same_strings : (A A' P P' T T' : List ℕ) → A ≡ A' → P ≡ P' → T ≡ T'
    → ◌≡◌ {A = Strings} (record { alphabet = A; pattern = P; text = T }) (record { alphabet = A'; pattern = P'; text = T' })
same_strings A A' P P' T T' a p t = cc

same_sizes : (k k' m m' n n' : ℕ) → k ≡ k' → m ≡ m' → n ≡ n' → ◌≡◌ {A = Result Sizes Refusal} (Ok (record { k = k; m = m; n = n })) (Ok (record { k = k'; m = m'; n = n' }))
same_sizes k k' m m' n n' ek em en = cc

module _ (B K M N : ℕ) (s : List ℕ) (d : Strings) where
  abbrev plan : Result Whole Refusal
  plan = planning B K M N (length d.alphabet) (length d.pattern) (length d.text) s

  whole_found : (w : Whole) → plan ≡ Ok w → LinesFound B K M N s d (plan_of w)
  unfolding reading
  whole_found w q =
      let p = plan_of w in
      let F = planning_found B K M N _ _ _ s w q in
      let is = lent_is F.alphabet refl refl in
      let P = F.both.pattern in
      let T = F.both.text in
      record {
        reads = rw q (ap Ok (sym (same_strings _ _ _ _ _ _ is (ap letters_of (line_reads s p is P)) (ap letters_of (line_reads s p is T)))));
        alphabet = alphabet_lent F.alphabet refl refl;
        pattern = line_found s p is P;
        text = line_found s p is T;
      }

  pub lines_found : (p : Planned) → Ok p ≡ planned_of plan → LinesFound B K M N s d p
  lines_found p e =
      let k = planned_is _ p e in
      subst (LinesFound B K M N s d) k.2 (whole_found k.0 k.1)

  -- a sheet with no plan
  pub not_read : (r : Refusal) → Err r ≡ planned_of plan → ReadInto B K M N s d (Err r) d
  unfolding reading
  not_read r e = rw (unplanned plan r e) (record { answers = refl; leaves = refl })

  -- a sheet with a plan, whose strings are left in the lent lists
  pub read_whole : (p : Planned) → LinesFound B K M N s d p → (A P T : List ℕ)
      → A ≡ over (strings_in s p).alphabet d.alphabet
      → P ≡ over (strings_in s p).pattern d.pattern
      → T ≡ over (strings_in s p).text d.text
      → ReadInto B K M N s d (Ok (record { k = p.alphabet.size; m = p.pattern.size; n = p.text.size })) (record { alphabet = A; pattern = P; text = T })
  read_whole p f A P T ea ep et =
      record {
        answers = sym (ap taken_of f.reads ∙ same_sizes _ _ _ _ _ _ f.alphabet.size f.pattern.size f.text.size);
        leaves = same_strings _ _ _ _ _ _ ea ep et ∙ ap (λ (o : Result Strings Refusal). left_of o d) (sym f.reads);
      }

  -- the answer alone
  pub measured : (r : Result Sizes Refusal) (after : Strings) → ReadInto B K M N s d r after → Measured B K M N s d r
  measured r after p = record { answers = p.answers; leaves = refl }
