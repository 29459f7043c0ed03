-- One sign, one letter: a choice takes each letter, a set, to a base letter, the same wherever that set stands.
--
--   Chosen P T i f    f is a choice for P standing at start i: it gives every letter of P and every letter of T under it one of its members,
--                     and the two letters of each pair the same one
--   BoundHit P T i    P fits into T from i on, and there is such a choice
--
-- The same as tests, by trying every choice for the letters that stand there:
--
--   chosen P T i f      the test whether f is such a choice
--   some_chosen P T i b  such a choice passes the test b
--   bound_at P T i       start i is bound-listed
--   bound_hits P T       all of those starts, ascending
--   lowest_of P T i c    the least base letter that such a choice gives to c
--   lowest_at P T i      the same for each letter of P: what is written for a start
use Rattle.std.specs.Prelude.{ℕ, zero, suc, ◌+◌, ◌≤◌, ◌<◌, ◌≡◌, Bool, true, cond, ◌&&◌, List, [], ◌∷◌, map, eqb, ltb, length, get_or}
use Rattle.letters.specs.Letters.{member}
use Rattle.hits.specs.Hits.{within, starts_from}
use Rattle.shifts.specs.Least.{least}

pub record Chosen (P T : List ℕ) (i : ℕ) (f : ℕ → ℕ) : Type 0 where
  pub above : (j : ℕ) → j < length P → member (f (get_or P j 0)) (get_or P j 0) ≡ true
  pub under : (j : ℕ) → j < length P → member (f (get_or T (i + j) 0)) (get_or T (i + j) 0) ≡ true
  pub agree : (j : ℕ) → j < length P → f (get_or P j 0) ≡ f (get_or T (i + j) 0)

pub record BoundHit (P T : List ℕ) (i : ℕ) : Type 0 where
  pub fits : i + length P ≤ length T
  pub choice : ℕ → ℕ
  pub right : Chosen P T i choice

-- f is right for the letters a and c of a pair
abbrev pub right_pair : (ℕ → ℕ) → ℕ → ℕ → Bool
right_pair f a c = member (f a) a && (member (f c) c && eqb (f a) (f c))

-- and for the first h pairs
unfoldable pub right_pairs : List ℕ → List ℕ → ℕ → (ℕ → ℕ) → ℕ → Bool
right_pairs P T i f zero = true
right_pairs P T i f (suc h) = right_pair f (get_or P h 0) (get_or T (i + h) 0) && right_pairs P T i f h

abbrev pub chosen : List ℕ → List ℕ → ℕ → (ℕ → ℕ) → Bool
chosen P T i f = right_pairs P T i f (length P)

-- f, but b for the letter c
abbrev pub giving : ℕ → ℕ → (ℕ → ℕ) → ℕ → ℕ
giving c b f x = cond (eqb x c) b (f x)

-- a number below n has the property
abbrev pub some_below : (ℕ → Bool) → ℕ → Bool
some_below b n = ltb (least b 0 n) n

-- f with any members for the letters cs, each in turn: one of these choices passes the test b. Every member of a letter is below the letter, as a number
unfoldable pub some_choice : ((ℕ → ℕ) → Bool) → List ℕ → (ℕ → ℕ) → Bool
some_choice b [] f = b f
some_choice b (c ∷ cs) f = some_below (λ x. member x c && some_choice b cs (giving c x f)) c

-- the letters of the first h pairs
unfoldable pub letters_at : List ℕ → List ℕ → ℕ → ℕ → List ℕ
letters_at P T i zero = []
letters_at P T i (suc h) = get_or P h 0 ∷ get_or T (i + h) 0 ∷ letters_at P T i h

unfoldable pub some_chosen : List ℕ → List ℕ → ℕ → ((ℕ → ℕ) → Bool) → Bool
some_chosen P T i b = some_choice (λ f. chosen P T i f && b f) (letters_at P T i (length P)) (λ c. 0)

unfoldable pub bound_at : List ℕ → List ℕ → ℕ → Bool
bound_at P T i = within P T i && some_chosen P T i (λ f. true)

unfoldable pub bound_hits : List ℕ → List ℕ → List ℕ
bound_hits P T = starts_from (bound_at P T) (suc (length T)) 0

unfoldable pub lowest_of : List ℕ → List ℕ → ℕ → ℕ → ℕ
lowest_of P T i c = least (λ b. some_chosen P T i (λ f. eqb (f c) b)) 0 c

unfoldable pub lowest_at : List ℕ → List ℕ → ℕ → List ℕ
lowest_at P T i = map (lowest_of P T i) P
