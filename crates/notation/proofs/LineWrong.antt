-- The place of a wrong letter line is the first wrong byte: every state of the reader can be carried to a right line. Assumes nothing.
use mathlib.Core.Path.{◌≡◌, refl, sym, ap, ap₂, ◌∙◌, subst}
use mathlib.Core.Bool.{Bool}
use mathlib.Core.List.{List, [], ◌∷◌, ◌++◌, append_assoc, append-nil}
use Prim.Native.Nat.{ℕ, suc, ◌+◌, ◌≤◌, ◌<◌, zero-le}
use native.Mathlib.Omega.{arith}
use lib.ListN.{length, take}
use lib.Seq.{append_snoc}
use Rattle.notation.specs.Alphabet.{Alphabet}
use Rattle.notation.specs.Spelling.{spell, line, Proper, LetterLine}
use Rattle.notation.specs.Wrong.{FirstWrong}
use Rattle.notation.specs.Reader.{State, out, Move, stop, end, to, letter, byte_move, got, wrong, more, read_from}
use Rattle.notation.proofs.ReadLaws.{read_on, more_wrong}
use Rattle.notation.proofs.SpelledLaws.{line_read}
use Rattle.notation.proofs.StateLaws.{pre, Ok, Sense, sense, Live, live}

module _ (marks : Bool) (A : List ℕ) where
  -- where the reader stops, after w bytes of a letter
  record Stuck (σ : State) (at : ℕ) (s : List ℕ) (q : ℕ) : Type 0 where
    far : ℕ
    place : q ≡ at + far
    within : far ≤ length s
    begun : Live marks A (pre A σ ++ take far s)
    refused : far < length s → (v : List ℕ) → read_from marks A σ at (take (suc far) s ++ v) ≡ wrong q

  stuck_here : (σ : State) (at : ℕ) (s : List ℕ) (q : ℕ) → Ok A σ → q ≡ at → (0 < length s → (v : List ℕ) → read_from marks A σ at (take 1 s ++ v) ≡ wrong q) → Stuck σ at s q
  stuck_here σ at s q o e f =
      let l = live marks A σ o in
      record {
        far = 0;
        place = omega arith;
        within = zero-le;
        begun = subst (Live marks A) (sym (append-nil (pre A σ))) l;
        refused = f;
      }

  stuck_to : (σ τ : State) (b at : ℕ) (s : List ℕ) (q : ℕ) → byte_move marks A σ b ≡ to τ → pre A τ ≡ pre A σ ++ (b ∷ []) → Stuck τ (suc at) s q → Stuck σ at (b ∷ s) q
  stuck_to σ τ b at s q h p w = record {
    far = suc w.far;
    place = omega (arith, w.place);
    within = omega (arith, w.within);
    begun = subst (Live marks A) (ap (λ (xs : List ℕ). xs ++ take w.far s) p ∙ append_snoc (pre A σ) b (take w.far s)) w.begun;
    refused = λ l v. read_on marks A σ at b (take (suc w.far) s ++ v) (to τ) h ∙ w.refused (omega arith) v;
  }

  stuck_letter : (σ : State) (b at : ℕ) (s : List ℕ) (q c : ℕ) → byte_move marks A σ b ≡ letter c → Proper marks (length A) c → spell A c ≡ pre A σ ++ (b ∷ []) → Stuck out (suc at) s q → Stuck σ at (b ∷ s) q
  unfolding line
  stuck_letter σ b at s q c h pc p w =
      let u = w.begun in
      record {
        far = suc w.far;
        place = omega (arith, w.place);
        within = omega (arith, w.within);
        begun = record {
          rest = u.rest;
          letters = c ∷ u.letters;
          proper = (pc, u.proper);
          spelled = ap (λ (xs : List ℕ). xs ++ u.rest) (sym (append_snoc (pre A σ) b (take w.far s))) ∙ append_assoc (pre A σ ++ (b ∷ [])) (take w.far s) u.rest ∙ ap₂ (λ (xs ys : List ℕ). xs ++ ys) (sym p) u.spelled;
        };
        refused = λ l v. read_on marks A σ at b (take (suc w.far) s ++ v) (letter c) h ∙ ap (more c) (w.refused (omega arith) v);
      }

  stuck : (s : List ℕ) (σ : State) (at q : ℕ) → Ok A σ → read_from marks A σ at s ≡ wrong q → Stuck σ at s q
  unfolding read_from
  stuck [] σ at q o e = stuck_here σ at [] q o (cc) (λ l. absurd (omega arith))
  stuck (b ∷ s) σ at q o e = go (byte_move marks A σ b) refl (sense marks A σ b o) (λ τ ok r. stuck s τ (suc at) q ok r)
    where
      go : (m : Move) → byte_move marks A σ b ≡ m → Sense marks A σ b m → ((τ : State) → Ok A τ → read_from marks A τ (suc at) s ≡ wrong q → Stuck τ (suc at) s q) → Stuck σ at (b ∷ s) q
      go stop h z ih =
          let w : wrong at ≡ wrong q = sym (read_on marks A σ at b s stop h) ∙ e in
          stuck_here σ at (b ∷ s) q o (cc) (λ l v. read_on marks A σ at b v stop h ∙ w)
      go end h z ih = absurd (let w : got [] (suc at) ≡ wrong q = sym (read_on marks A σ at b s end h) ∙ e in cc)
      go (to τ) h z ih = stuck_to σ τ b at s q h z.1 (ih τ z.0 (sym (read_on marks A σ at b s (to τ) h) ∙ e))
      go (letter c) h z ih = stuck_letter σ b at s q c h z.0 z.1 (ih out tt (more_wrong c _ q (sym (read_on marks A σ at b s (letter c) h) ∙ e)))

  module _ (al : Alphabet A) where
    -- a refusal names the first wrong byte
    pub first_wrong : (s : List ℕ) (at q : ℕ) → read_from marks A out at s ≡ wrong q → (far : ℕ) × (q ≡ at + far) × FirstWrong (LetterLine marks A) s far
    first_wrong s at q e =
        let w = stuck s out at q tt e in
        let b = w.begun in (
          w.far,
          w.place,
          record {
            within = w.within;
            before = record { rest = b.rest; right = record { letters = b.letters; proper = b.proper; spelled = b.spelled } };
            wrong = λ l g. let r = g.right in
                let a : got r.letters (at + length (line A r.letters)) ≡ wrong q
                = sym (line_read marks A al r.letters at [] r.proper) ∙ ap (read_from marks A out at) (append-nil (line A r.letters) ∙ sym r.spelled) ∙ w.refused l g.rest in
                cc;
          },
        )
