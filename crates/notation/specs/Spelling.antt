-- The letter notation: the one spelling of a letter, and a line of letters.
--
-- In the pattern's line no entry mark may stand, in the text's line marks may: `marks` tells which line is meant.
--
--   pick A c              the bytes of c's members, ascending
--   spelling k ms         the spelling of a set of these members among k letters
--   spell A c             c's spelling
--   line A cs             the spellings of the letters cs, then LF
--   Proper marks k c      c may stand in a line over an alphabet of k: all its members are below k, and it has some or is a mark that may stand there
--   AllProper marks k cs  all of cs may
--   LetterLine marks A    the right lines of letters
--   AlphabetLine k        the right alphabet lines of k letters
use Rattle.std.specs.Prelude.{ℕ, ◌^◌, ◌<◌, ◌≡◌, Bool, true, cond, List, [], ◌∷◌, ◌++◌, map, eqb, length, get_or}
use Rattle.letters.specs.Members.{members}
use Rattle.notation.specs.Alphabet.{Alphabet}

unfoldable pub pick : List ℕ → ℕ → List ℕ
pick A c = map (λ b. get_or A b 0) (members (length A) c)

-- | for none, the entry mark; the byte of a single one; * for all k; [, the members and ] for any other
unfoldable pub spelling : ℕ → List ℕ → List ℕ
spelling k ms =
    cond (eqb (length ms) 0) (124 ∷ [])
    (cond (eqb (length ms) 1) ms
    (cond (eqb (length ms) k) (42 ∷ []) (91 ∷ (ms ++ (93 ∷ [])))))

unfoldable pub spell : List ℕ → ℕ → List ℕ
spell A c = spelling (length A) (pick A c)

unfoldable pub line : List ℕ → List ℕ → List ℕ
line A [] = 10 ∷ []
line A (c ∷ cs) = spell A c ++ line A cs

abbrev pub Proper : Bool → ℕ → ℕ → Type 0
Proper marks k c = (c ≡ 0 → marks ≡ true) × (c < 2 ^ k)

abbrev pub AllProper : Bool → ℕ → List ℕ → Type 0
AllProper marks k [] = Unit {0}
AllProper marks k (c ∷ cs) = Proper marks k c × AllProper marks k cs

pub record LetterLine (marks : Bool) (A w : List ℕ) : Type 0 where
  pub letters : List ℕ
  pub proper : AllProper marks (length A) letters
  pub spelled : w ≡ line A letters

pub record AlphabetLine (k : ℕ) (w : List ℕ) : Type 0 where
  pub bytes : List ℕ
  pub size : length bytes ≡ k
  pub right : Alphabet bytes
  pub listed : w ≡ bytes ++ (10 ∷ [])
