-- The candidates at a start, one set for each pair, and how they are cut. No public contract cites this: it is what the code keeps between its own functions.
--
--   Candidates P T i C  C has a set for each pair: members of both its letters, and every member that some choice gives it
--   CutBy T i C D       D is C with each of its sets cut by the text letter under its pair
--   stands_at P T i c h  the letter c stands at pair h, in P or under it
--   tie_of P T i c j     the first pair before j at which the unsure letter c stands, or j
--   Tied P T i A B      A and B have that pair for the two letters of each pair
--   Backward m A        none of the first m pairs is tied to one behind it
--   NeverAhead A        no pair is
--   joined a j C        the sets of two pairs cut to what they have in common
--   passed A B h C      each of the first h pairs in turn, joined with the two that it is tied to
--   stirred A B h C     this changes something
--   Settled P T i C     candidates that are the same wherever an unsure letter stands
--   low_member c         the lowest member of c
--   Lowest P T i C      no set is empty, and the lowest member of each is the least that a choice gives
use Rattle.std.specs.Prelude.{ℕ, zero, suc, ◌+◌, ◌≤◌, ◌<◌, ◌≡◌, Bool, true, false, cond, not, ◌||◌, List, eqb, length, get_or, set}
use Rattle.letters.specs.Letters.{member, shared, single}
use Rattle.shifts.specs.Least.{least}
use Rattle.choices.specs.Choices.{Chosen, lowest_of}

pub record Candidates (P T : List ℕ) (i : ℕ) (C : List ℕ) : Type 0 where
  pub room : length P ≤ length C
  pub above : (j b : ℕ) → j < length P → member b (get_or C j 0) ≡ true → member b (get_or P j 0) ≡ true
  pub under : (j b : ℕ) → j < length P → member b (get_or C j 0) ≡ true → member b (get_or T (i + j) 0) ≡ true
  pub kept : (f : ℕ → ℕ) → Chosen P T i f → (j : ℕ) → j < length P → member (f (get_or P j 0)) (get_or C j 0) ≡ true

pub record CutBy (T : List ℕ) (i : ℕ) (C D : List ℕ) : Type 0 where
  pub room : length D ≡ length C
  pub less : (j : ℕ) → j < length C → get_or D j 0 ≡ shared (get_or C j 0) (get_or T (i + j) 0)

unfoldable pub stands_at : List ℕ → List ℕ → ℕ → ℕ → ℕ → Bool
stands_at P T i c h = eqb (get_or P h 0) c || eqb (get_or T (i + h) 0) c

-- a single letter leaves no choice, so nothing is tied by it
unfoldable pub tie_of : List ℕ → List ℕ → ℕ → ℕ → ℕ → ℕ
tie_of P T i c j = cond (single c) j (least (stands_at P T i c) 0 j)

pub record Tied (P T : List ℕ) (i : ℕ) (A B : List ℕ) : Type 0 where
  pub above : (j : ℕ) → j < length P → get_or A j 0 ≡ tie_of P T i (get_or P j 0) j
  pub under : (j : ℕ) → j < length P → get_or B j 0 ≡ tie_of P T i (get_or T (i + j) 0) j

abbrev pub Backward : ℕ → List ℕ → Type 0
Backward m A = (j : ℕ) → j < m → get_or A j 0 ≤ j

abbrev pub NeverAhead : List ℕ → Type 0
NeverAhead A = (j : ℕ) → get_or A j 0 ≤ j

abbrev pub common : ℕ → ℕ → List ℕ → ℕ
common a j C = shared (get_or C a 0) (get_or C j 0)

unfoldable pub joined : ℕ → ℕ → List ℕ → List ℕ
joined a j C = set (set C a (common a j C)) j (common a j C)

-- the two differ
abbrev pub differs : ℕ → ℕ → List ℕ → Bool
differs a j C = not (eqb (get_or C a 0) (get_or C j 0))

unfoldable pub passed : List ℕ → List ℕ → ℕ → List ℕ → List ℕ
passed A B zero C = C
passed A B (suc h) C = joined (get_or B h 0) h (joined (get_or A h 0) h (passed A B h C))

unfoldable pub stirred : List ℕ → List ℕ → ℕ → List ℕ → Bool
stirred A B zero C = false
stirred A B (suc h) C = (stirred A B h C || differs (get_or A h 0) h (passed A B h C)) || differs (get_or B h 0) h (joined (get_or A h 0) h (passed A B h C))

pub record Settled (P T : List ℕ) (i : ℕ) (C : List ℕ) : Type 0 where
  pub cands : Candidates P T i C
  pub tied : (c j h : ℕ) → single c ≡ false → j < length P → h < length P → stands_at P T i c j ≡ true → stands_at P T i c h ≡ true → get_or C j 0 ≡ get_or C h 0

unfoldable pub low_member : ℕ → ℕ
low_member c = least (λ b. member b c) 0 c

pub record Lowest (P T : List ℕ) (i : ℕ) (C : List ℕ) : Type 0 where
  pub room : length P ≤ length C
  pub full : (j : ℕ) → j < length P → get_or C j 0 ≡ 0 → ⊥
  pub least : (j : ℕ) → j < length P → low_member (get_or C j 0) ≡ lowest_of P T i (get_or P j 0)
