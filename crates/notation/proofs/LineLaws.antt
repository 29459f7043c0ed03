-- What is read was spelled so. Assumes nothing.
use mathlib.Core.Path.{◌≡◌, refl, sym, ap, ap₂, ◌∙◌, subst}
use mathlib.Core.Bool.{Bool}
use mathlib.Core.List.{List, [], ◌∷◌, ◌++◌, append_assoc}
use Prim.Native.Nat.{ℕ, suc, ◌+◌}
use native.Mathlib.Omega.{arith}
use lib.ListN.{length, length-append}
use lib.Seq.{append_snoc}
use Rattle.notation.specs.Spelling.{spell, line, Proper, AllProper}
use Rattle.notation.specs.Reader.{State, out, Move, stop, end, to, letter, byte_move, got, wrong, read_from}
use Rattle.notation.proofs.ReadLaws.{read_on, more_got}
use Rattle.notation.proofs.StateLaws.{pre, Ok, Sense, sense}

module _ (marks : Bool) (A : List ℕ) where
  -- s, after w bytes of a letter, begins with a right line
  record Was (w : List ℕ) (at : ℕ) (s cs : List ℕ) (e : ℕ) : Type 0 where
    rest : List ℕ
    bytes : w ++ s ≡ line A cs ++ rest
    place : e + length w ≡ at + length (line A cs)
    proper : AllProper marks (length A) cs

  was_to : (σ τ : State) (b at : ℕ) (s cs : List ℕ) (e : ℕ) → pre A τ ≡ pre A σ ++ (b ∷ []) → Was (pre A τ) (suc at) s cs e → Was (pre A σ) at (b ∷ s) cs e
  was_to σ τ b at s cs e p w = record {
    rest = w.rest;
    bytes = sym (append_snoc (pre A σ) b s) ∙ ap (λ (xs : List ℕ). xs ++ s) (sym p) ∙ w.bytes;
    place = omega (arith, w.place, ap length p, length-append (pre A σ) (b ∷ []));
    proper = w.proper;
  }

  was_letter : (σ : State) (b at : ℕ) (s ds : List ℕ) (e c : ℕ) → Proper marks (length A) c → spell A c ≡ pre A σ ++ (b ∷ []) → Was [] (suc at) s ds e → Was (pre A σ) at (b ∷ s) (c ∷ ds) e
  unfolding line
  was_letter σ b at s ds e c pc p w = record {
    rest = w.rest;
    bytes = sym (append_snoc (pre A σ) b s) ∙ ap₂ (λ (xs ys : List ℕ). xs ++ ys) (sym p) w.bytes ∙ sym (append_assoc (spell A c) (line A ds) w.rest);
    place = omega (arith, w.place, ap length p, length-append (pre A σ) (b ∷ []), length-append (spell A c) (line A ds));
    proper = (pc, w.proper);
  }

  -- what is read was spelled so
  sound : (s : List ℕ) (σ : State) (at : ℕ) (cs : List ℕ) (e : ℕ) → Ok A σ → read_from marks A σ at s ≡ got cs e → Was (pre A σ) at s cs e
  unfolding read_from line
  sound [] σ at cs e o q = cc
  sound (b ∷ s) σ at cs e o q = go (byte_move marks A σ b) refl (sense marks A σ b o) (λ τ ds ok r. sound s τ (suc at) ds e ok r)
    where
      go : (m : Move) → byte_move marks A σ b ≡ m → Sense marks A σ b m → ((τ : State) (ds : List ℕ) → Ok A τ → read_from marks A τ (suc at) s ≡ got ds e → Was (pre A τ) (suc at) s ds e) → Was (pre A σ) at (b ∷ s) cs e
      go stop h z ih = absurd (let w : wrong at ≡ got cs e = sym (read_on marks A σ at b s stop h) ∙ q in cc)
      go end h z ih =
          let w : got [] (suc at) ≡ got cs e = sym (read_on marks A σ at b s end h) ∙ q in
          let nil : cs ≡ [] = cc in
          let pl : e ≡ suc at = cc in
          let ln : line A cs ≡ 10 ∷ [] = ap (line A) nil in
          record {
            rest = s;
            bytes = sym (append_snoc (pre A σ) b s) ∙ ap (λ (xs : List ℕ). xs ++ s) (z ∙ sym ln);
            place = omega (arith, ap length z, length-append (pre A σ) (b ∷ []), ap length ln);
            proper = subst (λ (xs : List ℕ). AllProper marks (length A) xs) (sym nil) tt;
          }
      go (to τ) h z ih = was_to σ τ b at s cs e z.1 (ih τ cs z.0 (sym (read_on marks A σ at b s (to τ) h) ∙ q))
      go (letter c) h z ih =
          let g = more_got c (read_from marks A out (suc at) s) cs e (sym (read_on marks A σ at b s (letter c) h) ∙ q) in
          subst (λ (xs : List ℕ). Was (pre A σ) at (b ∷ s) xs e) (sym g.2) (was_letter σ b at s g.0 e c z.0 z.1 (ih out g.0 tt g.1))

  -- writing what was read gives the bytes
  pub read_line : (s : List ℕ) (at : ℕ) (cs : List ℕ) (e : ℕ) → read_from marks A out at s ≡ got cs e → AllProper marks (length A) cs × ((r : List ℕ) × (s ≡ line A cs ++ r)) × (e ≡ at + length (line A cs))
  read_line s at cs e q = let w = sound s out at cs e tt q in (w.proper, (w.rest, w.bytes), omega (arith, w.place))
