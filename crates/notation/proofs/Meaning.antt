-- What the definitions mean: an alphabet has no byte twice, and the reader answers what the right lines alone decide. Assumes nothing.
use mathlib.Core.Path.{◌≡◌, refl, ap, subst}
use mathlib.Core.Bool.{Bool}
use mathlib.Core.List.{List, [], ◌∷◌, ◌++◌}
use Prim.Native.Nat.{ℕ, zero, suc, ◌≤◌, ◌<◌}
use native.Mathlib.Omega.{arith}
use borrow.Author.Tests.{eqb-false, ltb-true, ltb-false}
use lib.Dec.{eqb, ltb}
use lib.ListN.{length, get_or}
use Rattle.letters.specs.First.{first_with}
use Rattle.notation.specs.Alphabet.{find, Alphabet}
use Rattle.notation.specs.Spelling.{AllProper, LetterLine, line}
use Rattle.notation.specs.Wrong.{FirstWrong}
use Rattle.notation.specs.Reader.{out, Read, got, wrong, read_from}
use Rattle.notation.proofs.FindLaws.{find_hit}
use Rattle.letters.proofs.Truth.{bool_cases}
use Rattle.notation.proofs.LineLaws.{read_line}
use Rattle.notation.proofs.LineWrong.{first_wrong}

-- no byte stands twice
abbrev pub Different : List ℕ → Type 0
Different A = (i j : ℕ) → i < j → j < length A → get_or A i 0 ≡ get_or A j 0 → ⊥

pub differ_different : (A : List ℕ) → ((i : ℕ) → i < length A → find A (get_or A i 0) ≡ i) → Different A
differ_different A d i j l h e = omega (arith, d i (omega arith), d j h, ap (find A) e)

-- what is found is found first
find_first : (A : List ℕ) (i : ℕ) → i < length A → find A (get_or A i 0) ≤ i
unfolding first_with
find_first [] i h = absurd (omega arith)
find_first (a ∷ A) zero h = bool_cases (eqb a a) (λ e. rw e (omega arith)) (λ e. absurd (eqb-false a a e refl))
find_first (a ∷ A) (suc i) h = bool_cases (eqb (get_or A i 0) a) (λ e. rw e (omega arith)) (λ e. rw e (omega (arith, find_first A i (omega arith))))

pub different_differ : (A : List ℕ) → Different A → (i : ℕ) → i < length A → find A (get_or A i 0) ≡ i
different_differ A d i h =
    let f = find_first A i h in
    bool_cases (ltb (find A (get_or A i 0)) i)
    (λ e. let l = ltb-true (find A (get_or A i 0)) i e in absurd (d (find A (get_or A i 0)) i l h (find_hit A (get_or A i 0) (omega arith))))
    (λ e. let l = ltb-false (find A (get_or A i 0)) i e in omega arith)

abbrev pub Means : Bool → List ℕ → List ℕ → Read → Type 0
Means marks A s (got cs e) = AllProper marks (length A) cs × ((r : List ℕ) × (s ≡ line A cs ++ r))
Means marks A s (wrong p) = FirstWrong (LetterLine marks A) s p

-- the reader's answer is determined by the right lines alone
pub read_meaning : (marks : Bool) (A : List ℕ) → Alphabet A → (s : List ℕ) → (r : Read) → read_from marks A out 0 s ≡ r → Means marks A s r
read_meaning marks A al s (got cs e) q = let w = read_line marks A s 0 cs e q in (w.0, (w.1.0, w.1.1))
read_meaning marks A al s (wrong p) q = let w = first_wrong marks A al s 0 p q in subst (FirstWrong (LetterLine marks A) s) (let z : w.0 ≡ p = omega (arith, w.1) in z) w.2
