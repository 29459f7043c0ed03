-- The reader of a letter line, byte by byte. `marks` tells whether entry marks may stand in the line.
--
--   State          between letters, or in a bracket with the members so far
--   Move           what a byte does: it is wrong, ends the line, leads to a state, or ends a letter
--   may_follow      a member may stand here, and the bracket can still be closed
--   Inner, inner   what a byte does in a bracket: wrong, the closer, or one more member
--   byte_move       what a byte does in a state
--   Read           the letters of a line and the place after it, or the place of the first wrong byte
--   more, follow   a letter in front of what is read; what is read after a byte
--   read_from       reading from a state on
use Rattle.std.specs.Prelude.{ℕ, suc, ◌+◌, ◌-◌, ◌^◌, Bool, cond, ◌&&◌, ◌||◌, List, [], ◌∷◌, eqb, leb, ltb, length}
use Rattle.notation.specs.Alphabet.{find}

-- between letters; or in a bracket, with the set of its members so far, the lowest number that may follow, and how many they are
pub data State : Type 0 where
  out : State
  inside : ℕ → ℕ → ℕ → State

pub data Move : Type 0 where
  stop : Move
  end : Move
  to : State → Move
  letter : ℕ → Move

-- the member j may follow n members below t: it is above them, and a set of two members or more, and not of all, can still be closed
unfoldable pub may_follow : ℕ → ℕ → ℕ → ℕ → Bool
may_follow k t n j = ltb j k && leb t j && ltb (suc n) k && (leb 1 n || ltb (suc j) k)

pub data Inner : Type 0 where
  wrong_byte : Inner
  closed : Inner
  on : ℕ → ℕ → ℕ → Inner

unfoldable pub inner : List ℕ → ℕ → ℕ → ℕ → ℕ → Inner
inner A S t n b =
    cond (eqb b 93) (cond (leb 2 n) closed wrong_byte)
    (cond (may_follow (length A) t n (find A b)) (on (S + 2 ^ find A b) (suc (find A b)) (suc n)) wrong_byte)

abbrev pub move_in : ℕ → Inner → Move
move_in S wrong_byte = stop
move_in S closed = letter S
move_in S (on S' t n) = to (inside S' t n)

unfoldable pub byte_move : Bool → List ℕ → State → ℕ → Move
byte_move marks A out b =
    cond (eqb b 10) end
    (cond (ltb (find A b) (length A)) (letter (2 ^ find A b))
    (cond (eqb b 42 && leb 2 (length A)) (letter (2 ^ length A - 1))
    (cond (eqb b 91 && leb 3 (length A)) (to (inside 0 0 0))
    (cond (eqb b 124 && marks) (letter 0) stop))))
byte_move marks A (inside S t n) b = move_in S (inner A S t n b)

-- the place after a line is that after its LF
pub data Read : Type 0 where
  got : List ℕ → ℕ → Read
  wrong : ℕ → Read

abbrev pub more : ℕ → Read → Read
more c (got cs e) = got (c ∷ cs) e
more c (wrong q) = wrong q

abbrev pub follow : Move → ℕ → (State → Read) → Read
follow stop at f = wrong at
follow end at f = got [] (suc at)
follow (to τ) at f = f τ
follow (letter c) at f = more c (f out)

-- reading s, which begins at the place at
unfoldable pub read_from : Bool → List ℕ → State → ℕ → List ℕ → Read
read_from marks A σ at [] = wrong at
read_from marks A σ at (b ∷ s) = follow (byte_move marks A σ b) at (λ τ. read_from marks A τ (suc at) s)
