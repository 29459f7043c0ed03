-- What the reader of a letter line answers at each place, in the code's types.
--
--   leave, bracket_from     a bracket: its set and the place after its closer, or its first wrong byte
--   one_of, one_by, one_at    what stands at a place: a letter, or none at the end, and the place after it; or a wrong byte
--   counted_of, letters_of   of a line that was read: how many letters and the place after it; its letters
--   Room r n               a right line, for whose letters a list of n has room
use Rattle.std.specs.Prelude.{ℕ, suc, ◌≤◌, ◌≡◌, Bool, List, [], ◌∷◌, Option, Some, None, Result, Ok, Err, length}
use Rattle.notation.specs.Alphabet.{wrong_at}
use Rattle.notation.specs.Reader.{out, Move, stop, end, to, letter, Inner, wrong_byte, closed, on, inner, byte_move, Read, got, wrong}
use Rattle.notation.specs.declared.alphabet.Wrong.{Wrong}

abbrev pub leave : ℕ → Inner → ℕ → (ℕ → ℕ → ℕ → Result (ℕ × ℕ) Wrong) → Result (ℕ × ℕ) Wrong
leave S wrong_byte at f = wrong_at at
leave S closed at f = Ok (S, suc at)
leave S (on S' t n) at f = f S' t n

-- from the members S on, of which there are n, below t
unfoldable pub bracket_from : List ℕ → ℕ → ℕ → ℕ → ℕ → List ℕ → Result (ℕ × ℕ) Wrong
bracket_from A S t n at [] = wrong_at at
bracket_from A S t n at (b ∷ s) = leave S (inner A S t n b) at (λ S' t' n'. bracket_from A S' t' n' (suc at) s)

abbrev pub one_of : Result (ℕ × ℕ) Wrong → Result (Option ℕ × ℕ) Wrong
one_of (Ok (c, e)) = Ok (Some c, e)
one_of (Err w) = Err w

abbrev pub one_by : Move → ℕ → Result (ℕ × ℕ) Wrong → Result (Option ℕ × ℕ) Wrong
one_by stop at r = wrong_at at
one_by end at r = Ok (None, suc at)
one_by (letter c) at r = Ok (Some c, suc at)
one_by (to τ) at r = one_of r

-- where marks may stand, or may not
unfoldable pub one_at : Bool → List ℕ → ℕ → List ℕ → Result (Option ℕ × ℕ) Wrong
one_at marks A at [] = wrong_at at
one_at marks A at (b ∷ s) = one_by (byte_move marks A out b) at (bracket_from A 0 0 0 (suc at) s)

abbrev pub counted_of : Read → Result (ℕ × ℕ) Wrong
counted_of (got cs e) = Ok (length cs, e)
counted_of (wrong q) = wrong_at q

abbrev pub letters_of : Read → List ℕ
letters_of (got cs e) = cs
letters_of (wrong q) = []

pub record Room (r : Read) (n : ℕ) : Type 0 where
  pub letters : List ℕ
  pub next : ℕ
  pub reads : r ≡ got letters next
  pub room : length letters ≤ n
