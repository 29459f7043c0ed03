-- The alphabet of a sheet: its bytes, in the order that numbers the letters, and the line that lists them.
--
--   plain b        a byte from 32 to 126, none of [ ] * |
--   find A b       the number of the letter b: its first index in A, or A's length where it is none
--   Alphabet A     A is an alphabet: plain bytes, all different
--   TableOf A t    t has the number of each byte
--   fresh B b      b is plain, and none of the bytes B
--   wrong_at        a byte that is wrong or missing at a place
--   fresh_from      so many fresh bytes, each after those before; or the first that is wrong or missing
--   end_at          the LF that ends a line
--   bytes_then      bytes, and what stands after them
--   alphabet_at     the alphabet line: k fresh bytes, then LF; or its first wrong byte
use Rattle.std.specs.Prelude.{ℕ, zero, suc, ◌<◌, ◌≡◌, Bool, true, cond, not, ◌&&◌, List, [], ◌∷◌, ◌++◌, Result, Ok, Err, eqb, leb, length, drop, get_or}
use Rattle.letters.specs.First.{first_with, some_with}
use Rattle.notation.specs.declared.alphabet.Wrong.{Wrong}

unfoldable pub plain : ℕ → Bool
plain b = leb 32 b && leb b 126 && not (eqb b 91) && not (eqb b 93) && not (eqb b 42) && not (eqb b 124)

abbrev pub find : List ℕ → ℕ → ℕ
find A b = first_with (eqb b) A

pub record Alphabet (A : List ℕ) : Type 0 where
  pub bytes : (i : ℕ) → i < length A → plain (get_or A i 0) ≡ true
  pub differ : (i : ℕ) → i < length A → find A (get_or A i 0) ≡ i

abbrev pub TableOf : List ℕ → List ℕ → Type 0
TableOf A t = (b : ℕ) → b < 256 → get_or t b 0 ≡ find A b

unfoldable pub fresh : List ℕ → ℕ → Bool
fresh before b = plain b && not (some_with (eqb b) before)

abbrev pub wrong_at : {A : Type 0} → ℕ → Result A Wrong
wrong_at q = Err (record { place = q })

-- k fresh bytes from the place at on: the place after them, or of the first that is wrong or missing
unfoldable pub fresh_from : List ℕ → ℕ → ℕ → List ℕ → Result ℕ Wrong
fresh_from before zero at s = Ok at
fresh_from before (suc k) at [] = wrong_at at
fresh_from before (suc k) at (b ∷ s) = cond (fresh before b) (fresh_from (before ++ (b ∷ [])) k (suc at) s) (wrong_at at)

-- at the place at
unfoldable pub end_at : ℕ → List ℕ → Result ℕ Wrong
end_at at [] = wrong_at at
end_at at (b ∷ s) = cond (eqb b 10) (Ok (suc at)) (wrong_at at)

abbrev pub bytes_then : Result ℕ Wrong → (ℕ → Result ℕ Wrong) → Result ℕ Wrong
bytes_then (Err w) f = Err w
bytes_then (Ok e) f = f e

-- the alphabet line of k letters in front of s, which begins at the place at
unfoldable pub alphabet_at : ℕ → ℕ → List ℕ → Result ℕ Wrong
alphabet_at k at s = bytes_then (fresh_from [] k at s) (λ e. end_at e (drop k s))
