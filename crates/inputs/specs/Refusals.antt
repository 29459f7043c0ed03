-- What a search refuses: checks 1, 2, 3, 4, 5, in this order, each with its kind, whose number the table gives, and its place.
--
--   bad marks k c     c is no letter of a string over an alphabet of k, where marks may stand in it or not
--   refuse            one check, and the checks after it
--   verdict           the checks of a search
--   both c c'         the checks c, and where they pass the checks c'
--   with_room          8, after the other checks, where too little is lent
--   verdict_at         the checks of a call that asks about one start and writes an element for each letter of the pattern
use Rattle.std.specs.Prelude.{ℕ, ◌+◌, ◌^◌, Bool, true, false, ◌||◌, List, eqb, leb, ltb, length, Result, Ok, Err}
use Rattle.letters.specs.First.{first_with, some_with}
use Rattle.letters.specs.Sizes.{outside}
use Rattle.inputs.specs.declared.refusal.Kind.{Kind}
use Rattle.inputs.specs.declared.refusal.Kind.TheVariants.{AlphabetSize, PatternLength, TextLength, PatternLetter, TextLetter, Room, Start}
use Rattle.inputs.specs.declared.refusal.Refusal.{Refusal}

-- without marks: c is 0 or has a bit at or above k. With marks, 0 is one: c has such a bit
unfoldable pub bad : Bool → ℕ → ℕ → Bool
bad false k c = eqb c 0 || leb (2 ^ k) c
bad true k c = leb (2 ^ k) c

-- what the checks say: nothing, or a refusal
abbrev pub Check : Type 0
Check = Result (Unit {0}) Refusal

-- a check: where the test holds, its kind and its place; else what the checks after it say
unfoldable pub refuse : Bool → Kind → ℕ → Check → Check
refuse true kind place c = Err (record { kind = kind; place = place })
refuse false kind place c = c

-- K, M and N are the largest k, m and n. Marks may stand in the text, not in the pattern
unfoldable pub verdict : ℕ → ℕ → ℕ → ℕ → List ℕ → List ℕ → Check
verdict K M N k P T =
    refuse (outside 1 K k) AlphabetSize 0
    (refuse (outside 1 M (length P)) PatternLength 0
    (refuse (ltb N (length T)) TextLength 0
    (refuse (some_with (bad false k) P) PatternLetter (first_with (bad false k) P)
    (refuse (some_with (bad true k) T) TextLetter (first_with (bad true k) T)
    (Ok tt)))))

-- some checks, and where they pass the others
abbrev pub both : Check → Check → Check
both (Err r) c = Err r
both (Ok tt) c = c

-- 8, after all other checks, where fewer elements are lent than are needed
unfoldable pub with_room : ℕ → ℕ → Check → Check
with_room needed lent c = both c (refuse (ltb lent needed) Room 0 (Ok tt))

-- those of a search; then 16 where P does not fit into T from start i on; then 8 where fewer elements are lent than P has letters
unfoldable pub verdict_at : ℕ → ℕ → ℕ → ℕ → List ℕ → List ℕ → ℕ → ℕ → Check
verdict_at K M N k P T i lent =
    both (verdict K M N k P T)
    (refuse (ltb (length T) (i + length P)) Start 0 (refuse (ltb lent (length P)) Room 0 (Ok tt)))
