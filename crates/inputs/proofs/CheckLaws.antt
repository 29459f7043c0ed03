-- What a search that passed its checks may rely on. Assumes nothing.
use mathlib.Core.Path.{◌≡◌, refl}
use mathlib.Core.Bool.{Bool, true, false}
use mathlib.Core.List.{List}
use Prim.Native.Nat.{ℕ, ◌+◌, ◌≤◌, ◌<◌}
use borrow.Author.Tests.{ltb-false, le-ltb, lt-ltb}
use lib.ListN.{length}
use Rattle.letters.specs.First.{first_with, some_with}
use Rattle.letters.specs.Sizes.{Sized, outside}
use Rattle.letters.proofs.SizeLaws.{inside_least, inside_most}
use Rattle.inputs.specs.Refusals.{Check, bad, verdict, verdict_at, refuse, both, with_room}
use Rattle.std.specs.Prelude.{Ok, Err}
use Rattle.inputs.specs.declared.refusal.Kind.{Kind}
use Rattle.inputs.specs.declared.refusal.Kind.TheVariants.{PatternLetter, TextLetter, Room}
use Rattle.inputs.specs.declared.refusal.Refusal.{Refusal}

-- a check that passed did not refuse
pub passed_by : (b : Bool) (kind : Kind) (place : ℕ) (r : Check) → refuse b kind place r ≡ Ok tt → b ≡ false
unfolding refuse
passed_by true kind place r e = cc
passed_by false kind place r e = refl

pub passed_on : (b : Bool) (kind : Kind) (place : ℕ) (r : Check) → refuse b kind place r ≡ Ok tt → r ≡ Ok tt
unfolding refuse
passed_on true kind place r e = cc
passed_on false kind place r e = e

-- what passed the checks of a search is within the limits
pub sized : (K M N k : ℕ) (P T : List ℕ) → verdict K M N k P T ≡ Ok tt → Sized M N P T
unfolding verdict
sized K M N k P T e =
    let e2 = passed_on _ _ _ _ e in
    let e3 = passed_on _ _ _ _ e2 in
    let b2 = passed_by _ _ _ _ e2 in
    record {
      pattern = record { some = inside_least 1 M (length P) b2; short = inside_most 1 M (length P) b2 };
      small = ltb-false N (length T) (passed_by _ _ _ _ e3);
    }

-- past the checks of sizes those of the letters are left
abbrev pub lettered : ℕ → List ℕ → List ℕ → Check
lettered k P T = refuse (some_with (bad false k) P) PatternLetter (first_with (bad false k) P) (refuse (some_with (bad true k) T) TextLetter (first_with (bad true k) T) (Ok tt))

pub past_sizes : (K M N k : ℕ) (P T : List ℕ) → outside 1 K k ≡ false → outside 1 M (length P) ≡ false → length T ≤ N → verdict K M N k P T ≡ lettered k P T
unfolding verdict refuse
past_sizes K M N k P T a b l = rw (a, b, le-ltb N (length T) l)

-- of two parts the first decides, or the second
pub both_passed : (c d : Check) → c ≡ Ok tt → both c d ≡ d
both_passed c d e = rw e

pub both_refused : (c d : Check) (r : Refusal) → c ≡ Err r → both c d ≡ Err r
both_refused c d r e = rw e

-- what passed both passed each
pub both_first : (c d : Check) → both c d ≡ Ok tt → c ≡ Ok tt
both_first (Ok tt) d e = refl
both_first (Err r) d e = cc

pub both_second : (c d : Check) → both c d ≡ Ok tt → d ≡ Ok tt
both_second (Ok tt) d e = e
both_second (Err r) d e = cc

-- a check before two parts is one of the first
pub refuse_both : (b : Bool) (kind : Kind) (place : ℕ) (c d : Check) → refuse b kind place (both c d) ≡ both (refuse b kind place c) d
unfolding refuse
refuse_both true kind place c d = refl
refuse_both false kind place c d = refl

pub room_passed : (needed lent : ℕ) (c : Check) → needed ≤ lent → with_room needed lent c ≡ c
unfolding with_room refuse
room_passed needed lent (Ok tt) l = rw (le-ltb lent needed l)
room_passed needed lent (Err r) l = refl

pub room_short : (needed lent : ℕ) (c : Check) → lent < needed → c ≡ Ok tt → with_room needed lent c ≡ Err (record { kind = Room; place = 0 })
unfolding with_room refuse
room_short needed lent c l e = rw (e, lt-ltb lent needed l)

-- what passed the checks about a start fits there, and has room
pub placed_at : (K M N k : ℕ) (P T : List ℕ) (i lent : ℕ) → verdict_at K M N k P T i lent ≡ Ok tt → Sized M N P T × (i + length P ≤ length T) × (length P ≤ lent)
unfolding verdict_at
placed_at K M N k P T i lent e =
    let f = both_first _ _ e in
    let s = both_second (verdict K M N k P T) _ e in
    (sized K M N k P T f, ltb-false _ _ (passed_by _ _ _ _ s), ltb-false _ _ (passed_by _ _ _ _ (passed_on _ _ _ _ s)))
