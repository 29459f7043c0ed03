-- The starred examples, over the alphabet aen: a is 1, e is 2, n is 4, [ae] 3, [an] 5, * 7, the entry mark 0; and over abcd: a 1, b 2, c 4, [ab] 3, [ac] 5, [bc] 6, [abc] 7. A lent list holds 9s.
use Rattle.std.specs.Prelude.{ℕ, true, false, List, [], ◌∷◌, ◌++◌, replicate, Some, None, Ok}
use Rattle.inputs.specs.declared.refusal.Kind.{Kind}
use Rattle.inputs.specs.declared.refusal.Kind.TheVariants.{PatternLetter, TextLetter, NoProduct, Room, LetterLine, Start}
use Rattle.engines.specs.declared.engine.Engine.{Engine}
use Rattle.engines.specs.declared.engine.Engine.TheVariants.{Brute, Kmp, Bm, Sunday, ShiftAnd, Hybrid}
use Rattle.sheet.specs.Reader.{refusal}
use Rattle.worked.specs.Asked.{Asked, ask_search, ask_first, ask_bound, ask_choice, ask_reasons, ask_report, ask_products, ask_letters, ask_meeting, Handed, give_search, give_first, give_choice, give_list, give_meeting}

pub record Example : Type 0 where
  pub asked : Asked
  pub due : Handed

abbrev blank : List ℕ
blank = 9 ∷ 9 ∷ 9 ∷ 9 ∷ []

-- a search over k letters with a list lent: total, scan tests, shift tests, word steps, and the list afterwards
abbrev finds_in : Engine → ℕ → List ℕ → List ℕ → List ℕ → ℕ → ℕ → ℕ → ℕ → List ℕ → Example
finds_in e k P T d total scan shift steps left =
    record { asked = ask_search e k P T d; due = give_search (Ok (record { total = total; scan = scan; shift = shift; steps = steps })) left }

-- over aen, with a list of four lent
abbrev finds : Engine → List ℕ → List ℕ → ℕ → ℕ → ℕ → ℕ → List ℕ → Example
finds e P T total scan shift steps left = finds_in e 3 P T blank total scan shift steps left

abbrev refuses : Engine → List ℕ → List ℕ → Kind → ℕ → Example
refuses e P T kind place = record { asked = ask_search e 3 P T blank; due = give_search (refusal kind place) blank }

-- the first hit: its start and the scan tests; or none, and the scan tests
abbrev finds_first : List ℕ → List ℕ → ℕ → ℕ → Example
finds_first P T start scan = record { asked = ask_first 3 P T; due = give_first (Ok (record { start = Some start; scan = scan })) }

abbrev finds_none : List ℕ → List ℕ → ℕ → Example
finds_none P T scan = record { asked = ask_first 3 P T; due = give_first (Ok (record { start = None; scan = scan })) }

-- the bound mode over abcd, with a list of four lent: the total, and the list afterwards
abbrev binds : List ℕ → List ℕ → ℕ → List ℕ → Example
binds P T total left = record { asked = ask_bound 4 P T blank; due = give_list (Ok total) left }

-- the choice at a start, with a list of four lent: made, and the list afterwards; or not listed
abbrev chooses : List ℕ → List ℕ → ℕ → List ℕ → Example
chooses P T start left = record { asked = ask_choice 4 P T start blank; due = give_choice (Ok true) left }

abbrev unlisted : List ℕ → List ℕ → ℕ → Example
unlisted P T start = record { asked = ask_choice 4 P T start blank; due = give_choice (Ok false) blank }

-- the choice refused, with this list lent
abbrev refuses_choice : List ℕ → List ℕ → ℕ → List ℕ → Kind → Example
refuses_choice P T start d kind = record { asked = ask_choice 4 P T start d; due = give_choice (refusal kind 0) d }

-- what is shared at a start, with a list of four lent: how many sets, and the list afterwards
abbrev agrees : List ℕ → List ℕ → ℕ → ℕ → List ℕ → Example
agrees P T start m left = record { asked = ask_reasons 3 P T start blank; due = give_list (Ok m) left }

-- the same refused, with this list lent
abbrev refuses_reasons : List ℕ → List ℕ → ℕ → List ℕ → Kind → Example
refuses_reasons P T start d kind = record { asked = ask_reasons 3 P T start d; due = give_list (refusal kind 0) d }

-- three letters to products and back, with a list of four lent
abbrev to_products : List ℕ → List ℕ → Example
to_products cs left = record { asked = ask_products 3 cs blank; due = give_list (Ok 3) left }

abbrev to_letters : List ℕ → List ℕ → Example
to_letters vs left = record { asked = ask_letters 3 vs blank; due = give_list (Ok 3) left }

-- a value that is no product for k = 3
abbrev no_product : ℕ → Example
no_product v = record { asked = ask_letters 3 (v ∷ []) blank; due = give_list (refusal NoProduct 0) blank }

-- two products for k = 3 that meet, and two that do not
abbrev meet : ℕ → ℕ → Example
meet a b = record { asked = ask_meeting 3 a b; due = give_meeting (Ok true) }

abbrev do_not_meet : ℕ → ℕ → Example
do_not_meet a b = record { asked = ask_meeting 3 a b; due = give_meeting (Ok false) }

abbrev anna : List ℕ
anna = 1 ∷ 4 ∷ 4 ∷ 1 ∷ []

abbrev page : List ℕ
page = 1 ∷ 4 ∷ 4 ∷ 1 ∷ 4 ∷ 4 ∷ 3 ∷ 4 ∷ 1 ∷ 4 ∷ 4 ∷ 5 ∷ []

abbrev three : List ℕ
three = 0 ∷ 3 ∷ 8 ∷ 9 ∷ []

abbrev an : List ℕ
an = 1 ∷ 4 ∷ []

-- an|naanna
abbrev entries : List ℕ
entries = 1 ∷ 4 ∷ 0 ∷ 4 ∷ 1 ∷ 1 ∷ 4 ∷ 4 ∷ 1 ∷ []

-- the worked sheet, and its report
abbrev sheet : List ℕ
sheet =
    51 ∷ 10 ∷
    97 ∷ 101 ∷ 110 ∷ 10 ∷
    52 ∷ 10 ∷
    97 ∷ 110 ∷ 110 ∷ 97 ∷ 10 ∷
    49 ∷ 50 ∷ 10 ∷
    97 ∷ 110 ∷ 110 ∷ 97 ∷ 110 ∷ 110 ∷ 91 ∷ 97 ∷ 101 ∷ 93 ∷ 110 ∷ 97 ∷ 110 ∷ 110 ∷ 91 ∷ 97 ∷ 110 ∷ 93 ∷ 10 ∷ []

abbrev report : List ℕ
report =
    104 ∷ 105 ∷ 116 ∷ 115 ∷ 32 ∷ 51 ∷ 10 ∷
    48 ∷ 10 ∷
    51 ∷ 10 ∷
    56 ∷ 10 ∷
    98 ∷ 114 ∷ 117 ∷ 116 ∷ 101 ∷ 32 ∷ 50 ∷ 48 ∷ 32 ∷ 48 ∷ 32 ∷ 48 ∷ 10 ∷
    107 ∷ 109 ∷ 112 ∷ 32 ∷ 49 ∷ 51 ∷ 32 ∷ 52 ∷ 32 ∷ 48 ∷ 10 ∷
    98 ∷ 109 ∷ 32 ∷ 49 ∷ 52 ∷ 32 ∷ 51 ∷ 32 ∷ 48 ∷ 10 ∷
    115 ∷ 117 ∷ 110 ∷ 100 ∷ 97 ∷ 121 ∷ 32 ∷ 49 ∷ 53 ∷ 32 ∷ 48 ∷ 32 ∷ 48 ∷ 10 ∷
    115 ∷ 104 ∷ 105 ∷ 102 ∷ 116 ∷ 97 ∷ 110 ∷ 100 ∷ 32 ∷ 48 ∷ 32 ∷ 48 ∷ 32 ∷ 49 ∷ 50 ∷ 10 ∷
    104 ∷ 121 ∷ 98 ∷ 114 ∷ 105 ∷ 100 ∷ 32 ∷ 49 ∷ 32 ∷ 48 ∷ 32 ∷ 49 ∷ 50 ∷ 10 ∷ []

-- `3`, `aen`, `1`, these bytes, `0` and an empty line
abbrev sheet_with : List ℕ → List ℕ
sheet_with xs = 51 ∷ 10 ∷ 97 ∷ 101 ∷ 110 ∷ 10 ∷ 49 ∷ 10 ∷ (xs ++ (10 ∷ 48 ∷ 10 ∷ 10 ∷ []))

-- a sheet that is refused, with the kind and the place
abbrev refuses_sheet : List ℕ → Kind → ℕ → Example
refuses_sheet s kind place = record { asked = ask_report s blank; due = give_list (refusal kind place) blank }

abbrev pub examples : List Example
examples =
    -- the worked sheet
    finds Brute anna page 3 20 0 0 three
    ∷ finds Kmp anna page 3 13 4 0 three
    ∷ finds Bm anna page 3 14 3 0 three
    ∷ finds Sunday anna page 3 15 0 0 three
    ∷ finds ShiftAnd anna page 3 0 0 12 three
    ∷ finds Hybrid anna page 3 1 0 12 three
    -- aan in aa[an]n
    ∷ finds Brute (1 ∷ 1 ∷ 4 ∷ []) (1 ∷ 1 ∷ 5 ∷ 4 ∷ []) 2 6 0 0 (0 ∷ 1 ∷ 9 ∷ 9 ∷ [])
    ∷ finds Kmp (1 ∷ 1 ∷ 4 ∷ []) (1 ∷ 1 ∷ 5 ∷ 4 ∷ []) 2 4 2 0 (0 ∷ 1 ∷ 9 ∷ 9 ∷ [])
    -- an in eeean
    ∷ finds Hybrid an (2 ∷ 2 ∷ 2 ∷ 1 ∷ 4 ∷ []) 1 2 0 2 (3 ∷ 9 ∷ 9 ∷ 9 ∷ [])
    ∷ finds ShiftAnd an (2 ∷ 2 ∷ 2 ∷ 1 ∷ 4 ∷ []) 1 0 0 5 (3 ∷ 9 ∷ 9 ∷ 9 ∷ [])
    -- * in *
    ∷ finds Brute (7 ∷ []) (7 ∷ []) 1 1 0 0 (0 ∷ 9 ∷ 9 ∷ 9 ∷ [])
    -- e in a
    ∷ finds Brute (2 ∷ []) (1 ∷ []) 0 1 0 0 blank
    -- an in a, and in the empty text: all counts 0
    ∷ finds Brute an (1 ∷ []) 0 0 0 0 blank
    ∷ finds Kmp an (1 ∷ []) 0 0 0 0 blank
    ∷ finds Bm an (1 ∷ []) 0 0 0 0 blank
    ∷ finds Sunday an (1 ∷ []) 0 0 0 0 blank
    ∷ finds ShiftAnd an (1 ∷ []) 0 0 0 0 blank
    ∷ finds Hybrid an (1 ∷ []) 0 0 0 0 blank
    ∷ finds Brute an [] 0 0 0 0 blank
    ∷ finds Kmp an [] 0 0 0 0 blank
    ∷ finds Bm an [] 0 0 0 0 blank
    ∷ finds Sunday an [] 0 0 0 0 blank
    ∷ finds ShiftAnd an [] 0 0 0 0 blank
    ∷ finds Hybrid an [] 0 0 0 0 blank
    -- anna in an|naanna: not over the mark
    ∷ finds Brute anna entries 1 12 0 0 (5 ∷ 9 ∷ 9 ∷ 9 ∷ [])
    ∷ finds Kmp anna entries 1 11 0 0 (5 ∷ 9 ∷ 9 ∷ 9 ∷ [])
    ∷ finds Bm anna entries 1 9 0 0 (5 ∷ 9 ∷ 9 ∷ 9 ∷ [])
    ∷ finds Sunday anna entries 1 11 0 0 (5 ∷ 9 ∷ 9 ∷ 9 ∷ [])
    ∷ finds ShiftAnd anna entries 1 0 0 9 (5 ∷ 9 ∷ 9 ∷ 9 ∷ [])
    ∷ finds Hybrid anna entries 1 5 0 6 (5 ∷ 9 ∷ 9 ∷ 9 ∷ [])
    -- * in |, which belongs to no *
    ∷ finds Brute (7 ∷ []) (0 ∷ []) 0 1 0 0 blank
    -- the mark in a pattern
    ∷ refuses Brute (0 ∷ []) (1 ∷ []) PatternLetter 0
    -- a in aaa with a list of one
    ∷ finds_in Brute 3 (1 ∷ []) (1 ∷ 1 ∷ 1 ∷ []) (9 ∷ []) 3 3 0 0 (0 ∷ [])
    -- text letter 8 at index 2; bad letters in both
    ∷ refuses Brute (1 ∷ []) (1 ∷ 1 ∷ 8 ∷ []) TextLetter 2
    ∷ refuses Brute (8 ∷ []) (1 ∷ 1 ∷ 8 ∷ []) PatternLetter 0
    -- the first hit: anna in the worked sheet's text, an in eeean, na in annan
    ∷ finds_first anna page 0 4
    ∷ finds_first an (2 ∷ 2 ∷ 2 ∷ 1 ∷ 4 ∷ []) 3 5
    ∷ finds_first (4 ∷ 1 ∷ []) (1 ∷ 4 ∷ 4 ∷ 1 ∷ 4 ∷ []) 2 5
    -- none: e in a, an in a and in the empty text
    ∷ finds_none (2 ∷ []) (1 ∷ []) 1
    ∷ finds_none an (1 ∷ []) 0
    ∷ finds_none an [] 0
    -- a wrong letter behind the hit
    ∷ record { asked = ask_first 3 an (1 ∷ 4 ∷ 8 ∷ []); due = give_first (refusal TextLetter 2) }
    -- bound: [ab][abc][ab] over [abc]ab, and [ab][bc] over [ac][ab], are hits and not bound-listed
    ∷ finds_in Brute 4 (3 ∷ 7 ∷ 3 ∷ []) (7 ∷ 1 ∷ 2 ∷ []) blank 1 3 0 0 (0 ∷ 9 ∷ 9 ∷ 9 ∷ [])
    ∷ binds (3 ∷ 7 ∷ 3 ∷ []) (7 ∷ 1 ∷ 2 ∷ []) 0 blank
    ∷ unlisted (3 ∷ 7 ∷ 3 ∷ []) (7 ∷ 1 ∷ 2 ∷ []) 0
    ∷ finds_in Brute 4 (3 ∷ 6 ∷ []) (5 ∷ 3 ∷ []) blank 1 2 0 0 (0 ∷ 9 ∷ 9 ∷ 9 ∷ [])
    ∷ binds (3 ∷ 6 ∷ []) (5 ∷ 3 ∷ []) 0 blank
    ∷ unlisted (3 ∷ 6 ∷ []) (5 ∷ 3 ∷ []) 0
    -- [abc][abc] over [ab][bc]: b b. [ab] over [ab]: a
    ∷ chooses (7 ∷ 7 ∷ []) (3 ∷ 6 ∷ []) 0 (1 ∷ 1 ∷ 9 ∷ 9 ∷ [])
    ∷ chooses (3 ∷ []) (3 ∷ []) 0 (0 ∷ 9 ∷ 9 ∷ 9 ∷ [])
    -- [ab][ab] in aabb[ab][ab]; with a list of two; [ab] in |[ab]ac
    ∷ binds (3 ∷ 3 ∷ []) (1 ∷ 1 ∷ 2 ∷ 2 ∷ 3 ∷ 3 ∷ []) 4 (0 ∷ 2 ∷ 3 ∷ 4 ∷ [])
    ∷ record { asked = ask_bound 4 (3 ∷ 3 ∷ []) (1 ∷ 1 ∷ 2 ∷ 2 ∷ 3 ∷ 3 ∷ []) (9 ∷ 9 ∷ []); due = give_list (Ok 4) (0 ∷ 2 ∷ []) }
    ∷ binds (3 ∷ []) (0 ∷ 3 ∷ 1 ∷ 4 ∷ []) 2 (1 ∷ 2 ∷ 9 ∷ 9 ∷ [])
    -- a pattern longer than the text; a mark in the pattern
    ∷ binds (3 ∷ 3 ∷ []) (3 ∷ []) 0 blank
    ∷ record { asked = ask_bound 4 (0 ∷ []) (1 ∷ []) blank; due = give_list (refusal PatternLetter 0) blank }
    -- past the last start, and a pattern longer than the text: Start; a list too short, at a start that is not listed: Room
    ∷ refuses_choice (3 ∷ 3 ∷ []) (1 ∷ 1 ∷ 2 ∷ []) 2 blank Start
    ∷ refuses_choice (3 ∷ 3 ∷ []) (3 ∷ []) 0 (9 ∷ []) Start
    ∷ refuses_choice (3 ∷ 3 ∷ []) (1 ∷ 2 ∷ []) 0 (9 ∷ []) Room
    -- what anna shares with the worked sheet's text: at 3, a hit, a n n a; at 1, which is none, n alone. * with [ae] and with |
    ∷ agrees anna page 3 4 (1 ∷ 4 ∷ 4 ∷ 1 ∷ [])
    ∷ agrees anna page 1 4 (0 ∷ 4 ∷ 0 ∷ 0 ∷ [])
    ∷ agrees (7 ∷ []) (3 ∷ []) 0 1 (3 ∷ 9 ∷ 9 ∷ 9 ∷ [])
    ∷ agrees (7 ∷ []) (0 ∷ []) 0 1 (0 ∷ 9 ∷ 9 ∷ 9 ∷ [])
    -- past the last start: Start, with three lent too; at 3 with three lent: Room
    ∷ refuses_reasons anna page 9 blank Start
    ∷ refuses_reasons anna page 9 (9 ∷ 9 ∷ 9 ∷ []) Start
    ∷ refuses_reasons anna page 3 (9 ∷ 9 ∷ 9 ∷ []) Room
    -- products: [ae] 6, n 5, * 30, and back
    ∷ to_products (3 ∷ 4 ∷ 7 ∷ []) (6 ∷ 5 ∷ 30 ∷ 9 ∷ [])
    ∷ to_letters (6 ∷ 5 ∷ 30 ∷ []) (3 ∷ 4 ∷ 7 ∷ 9 ∷ [])
    -- [ae], the mark and *: 6, 1, 30, and back
    ∷ to_products (3 ∷ 0 ∷ 7 ∷ []) (6 ∷ 1 ∷ 30 ∷ 9 ∷ [])
    ∷ to_letters (6 ∷ 1 ∷ 30 ∷ []) (3 ∷ 0 ∷ 7 ∷ 9 ∷ [])
    -- 6 meets 10, not 5
    ∷ meet 6 10
    ∷ do_not_meet 6 5
    -- 1 meets neither 6 nor 1
    ∷ do_not_meet 1 6
    ∷ do_not_meet 1 1
    -- 0, 4, 7 are refused for k = 3
    ∷ no_product 0
    ∷ no_product 4
    ∷ no_product 7
    -- the worked sheet, bytes in and report bytes out
    ∷ record { asked = ask_report sheet (replicate 92 9); due = give_list (Ok 91) (report ++ (9 ∷ [])) }
    -- [ea] is wrong at the a, [a] at the ]; the worked sheet where four bytes are lent
    ∷ refuses_sheet (sheet_with (91 ∷ 101 ∷ 97 ∷ 93 ∷ [])) LetterLine 10
    ∷ refuses_sheet (sheet_with (91 ∷ 97 ∷ 93 ∷ [])) LetterLine 10
    ∷ refuses_sheet sheet Room 0
    -- | in a pattern line
    ∷ refuses_sheet (sheet_with (124 ∷ [])) LetterLine 8
    ∷ []
