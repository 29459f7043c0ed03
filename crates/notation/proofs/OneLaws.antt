-- Reading a line letter by letter. Assumes nothing.
use mathlib.Core.Path.{◌≡◌, refl, sym, ap, ◌∙◌, subst}
use mathlib.Core.Bool.{Bool, true, false, cond, ◌&&◌}
use mathlib.Core.List.{List, [], ◌∷◌}
use Prim.Native.Nat.{ℕ, zero, suc, ◌+◌, ◌-◌, ◌^◌, ◌≤◌, ◌<◌}
use native.Mathlib.Numerals.{add-one}
use native.Mathlib.Omega.{arith}
use borrow.Author.Tests.{eq-eqb, ne_eqb, le-leb, lt-leb, lt-ltb, le-ltb, eqb-true, eqb-false}
use lib.Dec.{eqb, leb, ltb}
use lib.ListN.{length, drop, get_or, length-drop}
use lib.Seq.{drop-cons, drop-length}
use Rattle.notation.specs.Alphabet.{find, wrong_at}
use Rattle.notation.specs.Reader.{State, out, inside, Move, stop, end, to, letter, Inner, wrong_byte, closed, on, inner, byte_move, Read, got, wrong, more, follow, read_from}
use Rattle.notation.specs.Answers.{leave, bracket_from, one_of, one_by, one_at}
use Rattle.notation.specs.declared.alphabet.Wrong.{Wrong}
use Rattle.std.proofs.Common.{Option, Some, None, Result, Ok, Err}
use Rattle.notation.proofs.BracketLaws.{bracket_end, bracket_by}
use Rattle.letters.proofs.Truth.{bool_cases}

pub one_end : (marks : Bool) (A s : List ℕ) (at : ℕ) → at ≡ length s → one_at marks A at (drop at s) ≡ wrong_at at
unfolding one_at
one_end marks A s at e = ap (λ (i : ℕ). one_at marks A at (drop i s)) e ∙ rw (drop-length s)

module _ (marks : Bool) (A s : List ℕ) (at : ℕ) (h : at < length s) where
  one_by_lem : (m : Move) → byte_move marks A out (get_or s at 0) ≡ m → one_at marks A at (drop at s) ≡ one_by m at (bracket_from A 0 0 0 (suc at) (drop (suc at) s))
  unfolding one_at
  one_by_lem m e = rw (drop-cons s at 0 h, e)

  pub one_lf : get_or s at 0 ≡ 10 → Ok (None, at + 1) ≡ one_at marks A at (drop at s)
  unfolding byte_move
  one_lf e = ap (λ (i : ℕ). Ok (None, i)) (add-one at) ∙ sym (one_by_lem end (rw (eq-eqb (get_or s at 0) 10 e)))

-- the byte at a place does not end the line, and has the number j
pub record Looked (A s : List ℕ) (at j : ℕ) : Type 0 where
  pub within : at < length s
  pub on : get_or s at 0 ≡ 10 → ⊥
  pub number : j ≡ find A (get_or s at 0)

module _ (marks : Bool) {A s : List ℕ} {at j : ℕ} (l : Looked A s at j) where
  -- what the tests after it say
  abbrev tested : Move
  tested =
      cond (ltb j (length A)) (letter (2 ^ j))
      (cond (eqb (get_or s at 0) 42 && leb 2 (length A)) (letter (2 ^ length A - 1))
      (cond (eqb (get_or s at 0) 91 && leb 3 (length A)) (to (inside 0 0 0))
      (cond (eqb (get_or s at 0) 124 && marks) (letter 0) stop)))

  one_tested : (m : Move) → tested ≡ m → one_by m at (bracket_from A 0 0 0 (suc at) (drop (suc at) s)) ≡ one_at marks A at (drop at s)
  unfolding byte_move
  one_tested m e = sym (one_by_lem marks A s at l.within m (rw (ne_eqb (get_or s at 0) 10 l.on, ← l.number) e))

  one_letter : (c : ℕ) → tested ≡ letter c → Ok (Some c, at + 1) ≡ one_at marks A at (drop at s)
  one_letter c e = ap (λ (i : ℕ). Ok (Some c, i)) (add-one at) ∙ one_tested (letter c) e

  pub one_single : j < length A → Ok (Some (2 ^ j), at + 1) ≡ one_at marks A at (drop at s)
  one_single h = one_letter (2 ^ j) (rw (lt-ltb j (length A) h))

  module _ (g : length A ≤ j) where
    pub one_star : get_or s at 0 ≡ 42 → 2 ≤ length A → Ok (Some (2 ^ length A - 1), at + 1) ≡ one_at marks A at (drop at s)
    one_star e h = one_letter (2 ^ length A - 1) (rw (le-ltb j (length A) g, eq-eqb (get_or s at 0) 42 e, le-leb 2 (length A) h))

    pub one_star_few : get_or s at 0 ≡ 42 → length A < 2 → wrong_at at ≡ one_at marks A at (drop at s)
    one_star_few e h =
        one_tested stop (rw (le-ltb j (length A) g, eq-eqb (get_or s at 0) 42 e, lt-leb 2 (length A) h, ne_eqb (get_or s at 0) 91 (λ f. omega arith), ne_eqb (get_or s at 0) 124 (λ f. omega arith)))

    module _ (n : get_or s at 0 ≡ 42 → ⊥) where
      pub one_open : get_or s at 0 ≡ 91 → 3 ≤ length A → one_of (bracket_from A 0 0 0 (at + 1) (drop (at + 1) s)) ≡ one_at marks A at (drop at s)
      one_open e h =
          ap (λ (i : ℕ). one_of (bracket_from A 0 0 0 i (drop i s))) (add-one at)
          ∙ one_tested (to (inside 0 0 0)) (rw (le-ltb j (length A) g, ne_eqb (get_or s at 0) 42 n, eq-eqb (get_or s at 0) 91 e, le-leb 3 (length A) h))

      pub one_few : get_or s at 0 ≡ 91 → length A < 3 → wrong_at at ≡ one_at marks A at (drop at s)
      one_few e h =
          one_tested stop
          (rw (le-ltb j (length A) g, ne_eqb (get_or s at 0) 42 n, eq-eqb (get_or s at 0) 91 e, lt-leb 3 (length A) h, ne_eqb (get_or s at 0) 124 (λ f. omega arith)))

      module _ (o : get_or s at 0 ≡ 91 → ⊥) where
        pub one_mark : get_or s at 0 ≡ 124 → marks ≡ true → Ok (Some 0, at + 1) ≡ one_at marks A at (drop at s)
        one_mark e m = one_letter 0 (rw (le-ltb j (length A) g, ne_eqb (get_or s at 0) 42 n, ne_eqb (get_or s at 0) 91 o, eq-eqb (get_or s at 0) 124 e, m))

        pub one_no_mark : get_or s at 0 ≡ 124 → marks ≡ false → wrong_at at ≡ one_at marks A at (drop at s)
        one_no_mark e m = one_tested stop (rw (le-ltb j (length A) g, ne_eqb (get_or s at 0) 42 n, ne_eqb (get_or s at 0) 91 o, eq-eqb (get_or s at 0) 124 e, m))

        pub one_none : (get_or s at 0 ≡ 124 → ⊥) → wrong_at at ≡ one_at marks A at (drop at s)
        one_none e = one_tested stop (rw (le-ltb j (length A) g, ne_eqb (get_or s at 0) 42 n, ne_eqb (get_or s at 0) 91 o, ne_eqb (get_or s at 0) 124 e))

-- a byte between letters that opens something opens a bracket
opens : (marks : Bool) (A : List ℕ) (b : ℕ) (τ : State) → byte_move marks A out b ≡ to τ → τ ≡ inside 0 0 0
unfolding byte_move
opens marks A b τ q =
    bool_cases (eqb b 10) (λ e. let w : end ≡ to τ = rw e at q in cc)
    (λ e. bool_cases (ltb (find A b) (length A)) (λ f. let w : letter (2 ^ find A b) ≡ to τ = rw (e, f) at q in cc)
    (λ f. bool_cases (eqb b 42 && leb 2 (length A)) (λ g. let w : letter (2 ^ length A - 1) ≡ to τ = rw (e, f, g) at q in cc)
    (λ g. bool_cases (eqb b 91 && leb 3 (length A)) (λ h. let w : to (inside 0 0 0) ≡ to τ = rw (e, f, g, h) at q in cc)
    (λ h. bool_cases (eqb b 124 && marks) (λ i. let w : letter 0 ≡ to τ = rw (e, f, g, h, i) at q in cc)
    (λ i. let w : stop ≡ to τ = rw (e, f, g, h, i) at q in cc)))))

-- a line goes on after a letter
module _ (marks : Bool) (A s : List ℕ) where
  abbrev pub by_bracket : Result (ℕ × ℕ) Wrong → Read
  by_bracket (Ok (c, e)) = more c (read_from marks A out e (drop e s))
  by_bracket (Err w) = wrong w.place

  abbrev pub by_one : Result (Option ℕ × ℕ) Wrong → Read
  by_one (Ok (Some c, e)) = more c (read_from marks A out e (drop e s))
  by_one (Ok (None, e)) = got [] e
  by_one (Err w) = wrong w.place

  by_bracket_lem : (r : Result (ℕ × ℕ) Wrong) → by_one (one_of r) ≡ by_bracket r
  by_bracket_lem (Ok (c, e)) = refl
  by_bracket_lem (Err w) = refl

  read_at : (σ : State) (at : ℕ) → at < length s → read_from marks A σ at (drop at s) ≡ follow (byte_move marks A σ (get_or s at 0)) at (λ τ. read_from marks A τ (suc at) (drop (suc at) s))
  unfolding read_from
  read_at σ at h = rw (drop-cons s at 0 h)

  read_end : (σ : State) (at : ℕ) → at ≡ length s → read_from marks A σ at (drop at s) ≡ wrong at
  unfolding read_from
  read_end σ at e = ap (λ (i : ℕ). read_from marks A σ at (drop i s)) e ∙ rw (drop-length s)

  read_bracket : (m at S t n : ℕ) → at + m ≡ length s → read_from marks A (inside S t n) at (drop at s) ≡ by_bracket (bracket_from A S t n at (drop at s))
  unfolding byte_move
  read_bracket zero at S t n e =
      let q : at ≡ length s = omega arith in
      read_end (inside S t n) at q ∙ ap by_bracket (sym (bracket_end A s S t n at q))
  read_bracket (suc m) at S t n e = go (inner A S t n (get_or s at 0)) refl (λ S' t' n'. read_bracket m (suc at) S' t' n' (omega arith))
    where
      h : at < length s
      h = omega arith

      go : (i : Inner) → inner A S t n (get_or s at 0) ≡ i
          → ((S' t' n' : ℕ) → read_from marks A (inside S' t' n') (suc at) (drop (suc at) s) ≡ by_bracket (bracket_from A S' t' n' (suc at) (drop (suc at) s)))
          → read_from marks A (inside S t n) at (drop at s) ≡ by_bracket (bracket_from A S t n at (drop at s))
      go wrong_byte q ih = read_at (inside S t n) at h ∙ rw q (ap by_bracket (sym (bracket_by A s S t n at h wrong_byte q)))
      go closed q ih = read_at (inside S t n) at h ∙ rw q (ap by_bracket (sym (bracket_by A s S t n at h closed q)))
      go (on S' t' n') q ih = read_at (inside S t n) at h ∙ rw q (ih S' t' n' ∙ ap by_bracket (sym (bracket_by A s S t n at h (on S' t' n') q)))

  pub read_one : (at : ℕ) → at ≤ length s → read_from marks A out at (drop at s) ≡ by_one (one_at marks A at (drop at s))
  read_one at l = bool_cases (eqb at (length s)) (λ e. let q = eqb-true at (length s) e in read_end out at q ∙ ap by_one (sym (one_end marks A s at q)))
      (λ e. let q = eqb-false at (length s) e in let h : at < length s = omega arith in inner_go h (byte_move marks A out (get_or s at 0)) refl)
    where
      inner_go : at < length s → (m : Move) → byte_move marks A out (get_or s at 0) ≡ m → read_from marks A out at (drop at s) ≡ by_one (one_at marks A at (drop at s))
      inner_go h stop q = read_at out at h ∙ rw q (ap by_one (sym (one_by_lem marks A s at h stop q)))
      inner_go h end q = read_at out at h ∙ rw q (ap by_one (sym (one_by_lem marks A s at h end q)))
      inner_go h (letter c) q = read_at out at h ∙ rw q (ap by_one (sym (one_by_lem marks A s at h (letter c) q)))
      inner_go h (to τ) q =
          let z : τ ≡ inside 0 0 0 = opens marks A (get_or s at 0) τ q in
          read_at out at h ∙ rw (q, z)
          (read_bracket (length s - suc at) (suc at) 0 0 0 (omega arith) ∙ sym (by_bracket_lem (bracket_from A 0 0 0 (suc at) (drop (suc at) s)))
          ∙ ap by_one (sym (one_by_lem marks A s at h (to τ) q)))

-- a bracket's closer lies after it, and within the sheet
abbrev AfterIn : ℕ → ℕ → Result (ℕ × ℕ) Wrong → Type 0
AfterIn at n (Ok (c, e)) = (at < e) × (e ≤ n)
AfterIn at n (Err w) = Unit {0}

abbrev pub OneIn : ℕ → ℕ → Result (Option ℕ × ℕ) Wrong → Type 0
OneIn at n (Ok p) = (at < p.1) × (p.1 ≤ n)
OneIn at n (Err w) = Unit {0}

after_weaken : (at n : ℕ) (r : Result (ℕ × ℕ) Wrong) → AfterIn (suc at) n r → AfterIn at n r
after_weaken at n (Ok (c, e)) (l, m) = (omega arith, m)
after_weaken at n (Err w) u = tt

one_in_of : (at n : ℕ) (r : Result (ℕ × ℕ) Wrong) → AfterIn at n r → OneIn at n (one_of r)
one_in_of at n (Ok (c, e)) u = u
one_in_of at n (Err w) u = tt

bracket_in : (A s : List ℕ) (S t n at : ℕ) → AfterIn at (at + length s) (bracket_from A S t n at s)
unfolding bracket_from
bracket_in A [] S t n at = tt
bracket_in A (b ∷ s) S t n at = go (inner A S t n b) (λ S' t' n'. bracket_in A s S' t' n' (suc at))
  where
    go : (i : Inner) → ((S' t' n' : ℕ) → AfterIn (suc at) (suc at + length s) (bracket_from A S' t' n' (suc at) s))
        → AfterIn at (at + suc (length s)) (leave S i at (λ S' t' n'. bracket_from A S' t' n' (suc at) s))
    go wrong_byte ih = tt
    go closed ih = (omega arith, omega arith)
    go (on S' t' n') ih = subst (λ (n : ℕ). AfterIn at n (bracket_from A S' t' n' (suc at) s)) (omega arith) (after_weaken at (suc at + length s) (bracket_from A S' t' n' (suc at) s) (ih S' t' n'))

one_in_list : (marks : Bool) (A s : List ℕ) (at : ℕ) → OneIn at (at + length s) (one_at marks A at s)
unfolding one_at
one_in_list marks A [] at = tt
one_in_list marks A (b ∷ s) at = go (byte_move marks A out b)
  where
    go : (m : Move) → OneIn at (at + suc (length s)) (one_by m at (bracket_from A 0 0 0 (suc at) s))
    go stop = tt
    go end = (omega arith, omega arith)
    go (letter c) = (omega arith, omega arith)
    go (to τ) = let q : suc at + length s ≡ at + suc (length s) = omega arith in subst (λ (n : ℕ). OneIn at n (one_of (bracket_from A 0 0 0 (suc at) s))) q (one_in_of at (suc at + length s) (bracket_from A 0 0 0 (suc at) s) (after_weaken at (suc at + length s) (bracket_from A 0 0 0 (suc at) s) (bracket_in A s 0 0 0 (suc at))))

pub one_in : (marks : Bool) (A s : List ℕ) (at : ℕ) → at ≤ length s → OneIn at (length s) (one_at marks A at (drop at s))
one_in marks A s at l = let q : at + length (drop at s) ≡ length s = omega (arith, length-drop at s) in subst (λ (n : ℕ). OneIn at n (one_at marks A at (drop at s))) q (one_in_list marks A (drop at s) at)
