-- What a pass over a line has read so far. Assumes nothing.
use mathlib.Core.Path.{◌≡◌, refl, sym, ap, ◌∙◌, subst}
use mathlib.Core.Bool.{Bool}
use mathlib.Core.List.{List, [], ◌∷◌, ◌++◌, append-nil}
use Prim.Native.Nat.{ℕ, ◌+◌, ◌≤◌, ◌<◌}
use native.Mathlib.Omega.{arith}
use lib.ListN.{length, drop, length-append}
use lib.Seq.{append_snoc}
use Rattle.notation.specs.Reader.{out, Read, got, wrong, more, read_from}
use Rattle.notation.specs.Answers.{one_at, Room}
use Rattle.notation.specs.declared.alphabet.Wrong.{Wrong}
use Rattle.std.proofs.Common.{Option, Some, None, Result, Ok, Err}
use Rattle.notation.proofs.OneLaws.{by_one, read_one, OneIn, one_in}

abbrev pub ahead : List ℕ → Read → Read
ahead past (got cs e) = got (past ++ cs) e
ahead past (wrong q) = wrong q

ahead_nil : (r : Read) → r ≡ ahead [] r
ahead_nil (got cs e) = refl
ahead_nil (wrong q) = refl

ahead_more : (past : List ℕ) (c : ℕ) (r : Read) → ahead past (more c r) ≡ ahead (past ++ (c ∷ [])) r
ahead_more past c (got cs e) = ap (λ (xs : List ℕ). got xs e) (sym (append_snoc past c cs))
ahead_more past c (wrong q) = refl

-- what is read past some letters has them in front
ahead_got : (past : List ℕ) (r : Read) (cs : List ℕ) (e : ℕ) → ahead past r ≡ got cs e → (ds : List ℕ) × (cs ≡ past ++ ds)
ahead_got past (got ds f) cs e q = (ds, (cc))
ahead_got past (wrong f) cs e q = cc

-- a pass over the line that begins at from has come to the place at; `past` are its letters so far, n of them
pub record Walked (marks : Bool) (A s : List ℕ) (from at n : ℕ) (past : List ℕ) : Type 0 where
  pub within : at ≤ length s
  pub paid : n + from ≤ at
  pub many : n ≡ length past
  pub reads : read_from marks A out from (drop from s) ≡ ahead past (read_from marks A out at (drop at s))

pub walk_start : (marks : Bool) (A s : List ℕ) (from : ℕ) → from ≤ length s → Walked marks A s from from 0 []
walk_start marks A s from l = record { within = l; paid = omega arith; many = refl; reads = ahead_nil _ }

module _ {marks : Bool} {A s : List ℕ} {from at n : ℕ} {past : List ℕ} (w : Walked marks A s from at n past) where
  by : (o : Result (Option ℕ × ℕ) Wrong) → one_at marks A at (drop at s) ≡ o → read_from marks A out from (drop from s) ≡ ahead past (by_one marks A s o)
  by o e = w.reads ∙ ap (ahead past) (read_one marks A s at w.within ∙ ap (by_one marks A s) e)

  -- the next place lies on
  pub walk_less : {p : Option ℕ × ℕ} → Ok p ≡ one_at marks A at (drop at s) → (at < p.1) × (p.1 ≤ length s)
  walk_less e = subst (OneIn at (length s)) (sym e) (one_in marks A s at w.within)

  -- what stands there
  at_one : {p : Option ℕ × ℕ} {o : Option ℕ} → Ok p ≡ one_at marks A at (drop at s) → p.0 ≡ o → one_at marks A at (drop at s) ≡ Ok (o, p.1)
  at_one {p} e h = sym e ∙ ap (λ (o : Option ℕ). Ok (o, p.1)) h

  pub walk_on : {p : Option ℕ × ℕ} {c : ℕ} → Ok p ≡ one_at marks A at (drop at s) → p.0 ≡ Some c → Walked marks A s from p.1 (n + 1) (past ++ (c ∷ []))
  walk_on {p} {c} e h =
      let i = walk_less e in
      record {
        within = i.1;
        paid = omega (arith, w.paid, i.0);
        many = omega (arith, w.many, length-append past (c ∷ []));
        reads = by (Ok (Some c, p.1)) (at_one e h) ∙ ahead_more past c (read_from marks A out p.1 (drop p.1 s));
      }

  pub walk_end : {p : Option ℕ × ℕ} → Ok p ≡ one_at marks A at (drop at s) → p.0 ≡ None → read_from marks A out from (drop from s) ≡ got past p.1
  walk_end {p} e h = by (Ok (None, p.1)) (at_one e h) ∙ ap (λ (xs : List ℕ). got xs p.1) (append-nil past)

  pub walk_wrong : {q : Wrong} → Err q ≡ one_at marks A at (drop at s) → read_from marks A out from (drop from s) ≡ wrong q.place
  walk_wrong {q} e = by (Err q) (sym e)

  module _ {m : ℕ} (r : Room (read_from marks A out from (drop from s)) m) where
    -- there is room for the next letter
    pub walk_room : {p : Option ℕ × ℕ} {c : ℕ} → Ok p ≡ one_at marks A at (drop at s) → p.0 ≡ Some c → n < m
    walk_room {p} {c} e h =
        let g = ahead_got (past ++ (c ∷ [])) (read_from marks A out p.1 (drop p.1 s)) r.letters r.next (sym (walk_on e h).reads ∙ r.reads) in
        omega (arith, r.room, ap length g.1, length-append (past ++ (c ∷ [])) g.0, length-append past (c ∷ []), w.many)

    -- and the line is no wrong one
    pub walk_right : {q : Wrong} → Err q ≡ one_at marks A at (drop at s) → ⊥
    walk_right {q} e = let z : got r.letters r.next ≡ wrong q.place = sym r.reads ∙ walk_wrong e in cc
