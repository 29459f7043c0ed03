-- The checks of the writer: what passed them, and what passes them. Assumes nothing.
use mathlib.Core.Path.{◌≡◌, refl, sym, ap, ◌∙◌, subst}
use mathlib.Core.List.{List, [], ◌∷◌, ◌++◌, append-nil}
use Prim.Native.Nat.{ℕ, ◌+◌, ◌*◌, ◌^◌, ◌≤◌, ◌<◌}
use native.Mathlib.Omega.{arith}
use borrow.Author.Tests.{le-ltb, ltb-false}
use lib.Dec.{ltb}
use lib.ListN.{length, length-append}
use Rattle.letters.proofs.SizeLaws.{inside}
use Rattle.inputs.specs.Refusals.{refuse, verdict}
use Rattle.std.specs.Prelude.{Result, Ok, Err}
use Rattle.inputs.specs.declared.refusal.Kind.TheVariants.{AlphabetLine}
use Rattle.inputs.proofs.CheckLaws.{passed_by, passed_on, both_first, both_second}
use Rattle.notation.specs.Alphabet.{Alphabet, fresh_from}
use Rattle.notation.specs.declared.alphabet.Wrong.{Wrong}
use Rattle.notation.proofs.AlphabetLaws.{alphabet_none, fresh_read, fresh_listed}
use Rattle.sheet.specs.Bytes.{sheet_bytes}
use Rattle.sheet.proofs.AcceptLaws.{Passing, passing, letters_below}
use Rattle.writer.specs.Writer.{on_bytes, checks, sizes, writing, Spellable}
use Rattle.writer.proofs.SheetLaws.{sheet_small}

-- what passed the checks: an alphabet of k, and strings that pass those of a search
pub record Checked (K M N k : ℕ) (A P T : List ℕ) : Type 0 where
  pub size : length A ≡ k
  pub alphabet : Alphabet A
  pub passed : verdict K M N (length A) P T ≡ Ok tt

all_bytes : (xs : List ℕ) → length xs ≡ 0 → xs ≡ []
all_bytes [] e = refl
all_bytes (x ∷ xs) e = absurd (omega arith)

pub checked : (K M N k : ℕ) (A P T : List ℕ) → checks K M N k A P T ≡ Ok tt → Checked K M N k A P T
unfolding checks
checked K M N k A P T q = go (fresh_from [] k 0 A) refl (passed_on _ _ _ _ q)
  where
    go : (r : Result ℕ Wrong) → fresh_from [] k 0 A ≡ r → on_bytes r k (length A) (verdict K M N k P T) ≡ Ok tt → Checked K M N k A P T
    go (Err p) h w = absurd (let z : ◌≡◌ {A = ℕ} 0 1 = cc in omega arith)
    go (Ok e) h w =
        let l = fresh_read [] k 0 A e alphabet_none h in
        let n = ap length l.split ∙ length-append l.bytes l.rest in
        let s = ltb-false k (length A) (passed_by (ltb k (length A)) AlphabetLine k _ w) in
        let z : l.rest ≡ [] = all_bytes l.rest (omega (arith, l.size)) in
        let is : A ≡ l.bytes = l.split ∙ ap (λ (xs : List ℕ). l.bytes ++ xs) z ∙ append-nil l.bytes in
        let size : length A ≡ k = ap length is ∙ l.size in
        record {
          size = size;
          alphabet = subst Alphabet (sym is) l.right;
          passed = ap (λ (x : ℕ). verdict K M N x P T) size ∙ passed_on (ltb k (length A)) AlphabetLine k _ w;
        }

module _ (K M N k : ℕ) (A P T : List ℕ) (e : checks K M N k A P T ≡ Ok tt) where
  sound : Passing K M N (length A) P T
  sound = passing K M N (length A) P T (checked K M N k A P T e).passed

  -- their letters have bytes, and their sheet's length is a number
  pub checked_spellable : K < 2 ^ 32 → Spellable A P T
  checked_spellable h = record {
    few = omega (arith, sound.few);
    pattern = letters_below _ (length A) P sound.pattern;
    text = letters_below _ (length A) T sound.text;
  }

  pub checked_small : K < 2 ^ 64 → M < 2 ^ 64 → N < 2 ^ 64 → length (sheet_bytes A P T) ≤ K + (K + 2) * M + (K + 2) * N + 66
  checked_small = sheet_small A P T K M N sound.few sound.short sound.small

-- such strings pass the checks
pub checks_pass : (K M N : ℕ) (A P T : List ℕ) → 0 < length A → length A ≤ K → Alphabet A → verdict K M N (length A) P T ≡ Ok tt → checks K M N (length A) A P T ≡ Ok tt
unfolding checks refuse
checks_pass K M N A P T some few al v =
    let f : fresh_from [] (length A) 0 A ≡ Ok (length A)
    = ap (fresh_from [] (length A) 0) (sym (append-nil A)) ∙ fresh_listed [] A 0 [] al ∙ ap Ok (omega arith) in
    rw (inside 1 K (length A) some few, f, le-ltb (length A) (length A) (omega arith)) v

-- ---- the length
pub sizes_fit : (B room n : ℕ) → n ≤ B → n ≤ room → sizes B room n ≡ Ok tt
unfolding sizes refuse
sizes_fit B room n small h = rw (le-ltb B n small, le-ltb room n h)

pub sizes_passed : (B room n : ℕ) → sizes B room n ≡ Ok tt → (n ≤ B) × (n ≤ room)
unfolding sizes
sizes_passed B room n e = (ltb-false B n (passed_by _ _ _ _ e), ltb-false room n (passed_by _ _ _ _ (passed_on _ _ _ _ e)))

-- ---- both
module _ (B K M N k : ℕ) (A P T : List ℕ) (room : ℕ) (e : writing B K M N k A P T room ≡ Ok tt) where
  pub writing_checked : Checked K M N k A P T
  unfolding writing
  writing_checked = checked K M N k A P T (both_first _ _ e)

  pub writing_fits : length (sheet_bytes A P T) ≤ B
  unfolding writing
  writing_fits = (sizes_passed B room (length (sheet_bytes A P T)) (both_second (checks K M N k A P T) _ e)).0
