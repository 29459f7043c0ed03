-- The first wrong byte on some lines: over `aen` and over alphabets of two and of one letter. Assumes nothing.
use mathlib.Core.Path.{◌≡◌, refl}
use mathlib.Core.Bool.{Bool, true, false}
use mathlib.Core.List.{List, [], ◌∷◌, map}
use Prim.Native.Nat.{ℕ}
use Rattle.letters.specs.First.{first_with}
use Rattle.notation.specs.Reader.{may_follow, inner, byte_move, out, Read, got, wrong, read_from}

record Case : Type 0 where
  marks : Bool
  alphabet : List ℕ
  line : List ℕ
  reads : Read

-- [ea] is wrong at the a, [a] at the ], [n at the n, [aen] at its n; with two letters [ is wrong, with one * too; | is a letter where marks may stand, and wrong elsewhere and in a bracket
abbrev cases : List Case
cases =
    record { marks = true; alphabet = 97 ∷ 101 ∷ 110 ∷ []; line = 91 ∷ 101 ∷ 97 ∷ 93 ∷ 10 ∷ []; reads = wrong 2 }
    ∷ record { marks = true; alphabet = 97 ∷ 101 ∷ 110 ∷ []; line = 91 ∷ 97 ∷ 93 ∷ 10 ∷ []; reads = wrong 2 }
    ∷ record { marks = true; alphabet = 97 ∷ 101 ∷ 110 ∷ []; line = 91 ∷ 110 ∷ 93 ∷ 10 ∷ []; reads = wrong 1 }
    ∷ record { marks = true; alphabet = 97 ∷ 101 ∷ 110 ∷ []; line = 91 ∷ 97 ∷ 101 ∷ 110 ∷ 93 ∷ 10 ∷ []; reads = wrong 3 }
    ∷ record { marks = true; alphabet = 97 ∷ 101 ∷ 110 ∷ []; line = 91 ∷ 97 ∷ 110 ∷ 93 ∷ 42 ∷ 101 ∷ 10 ∷ []; reads = got (5 ∷ 7 ∷ 2 ∷ []) 7 }
    ∷ record { marks = true; alphabet = 97 ∷ 101 ∷ 110 ∷ []; line = 97 ∷ []; reads = wrong 1 }
    ∷ record { marks = true; alphabet = 97 ∷ 98 ∷ []; line = 91 ∷ 97 ∷ 98 ∷ 93 ∷ 10 ∷ []; reads = wrong 0 }
    ∷ record { marks = true; alphabet = 97 ∷ 98 ∷ []; line = 42 ∷ 10 ∷ []; reads = got (3 ∷ []) 2 }
    ∷ record { marks = true; alphabet = 97 ∷ []; line = 42 ∷ 10 ∷ []; reads = wrong 0 }
    ∷ record { marks = true; alphabet = 97 ∷ []; line = 91 ∷ 97 ∷ 93 ∷ 10 ∷ []; reads = wrong 0 }
    ∷ record { marks = true; alphabet = 97 ∷ 101 ∷ 110 ∷ []; line = 97 ∷ 124 ∷ 42 ∷ 10 ∷ []; reads = got (1 ∷ 0 ∷ 7 ∷ []) 4 }
    ∷ record { marks = false; alphabet = 97 ∷ 101 ∷ 110 ∷ []; line = 97 ∷ 124 ∷ 42 ∷ 10 ∷ []; reads = wrong 1 }
    ∷ record { marks = true; alphabet = 97 ∷ 101 ∷ 110 ∷ []; line = 91 ∷ 97 ∷ 124 ∷ 93 ∷ 10 ∷ []; reads = wrong 2 }
    ∷ []

abbrev read : Case → Read
read c = read_from c.marks c.alphabet out 0 c.line

abbrev due : Case → Read
due c = c.reads

pub table : map read cases ≡ map due cases
unfolding first_with may_follow inner byte_move read_from
table = refl
