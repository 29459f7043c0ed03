-- Word steps from a until the state is 0 or the text ends settle every start that they pass. Assumes nothing.
use mathlib.Core.Path.{◌≡◌, sym}
use mathlib.Core.Bool.{cond}
use mathlib.Core.List.{List}
use Prim.Native.Nat.{ℕ, zero, suc, ◌+◌, ◌-◌, ◌≤◌, ◌<◌}
use native.Mathlib.Omega.{arith}
use borrow.Author.Tests.{leb-true, leb-false, eqb-true}
use lib.Dec.{eqb, leb}
use lib.ListN.{length, get_or}
use Rattle.letters.proofs.Truth.{bool_cases}
use Rattle.hits.specs.Hits.{starts_from, hits_from}
use Rattle.hits.proofs.HitLaws.{none_from, past_from}
use Rattle.word.specs.State.{Means}
use Rattle.word.specs.Word.{stepped}
use Rattle.word.proofs.WordLaws.{digits, stepped_means, top_hit, zero_dead}
use Rattle.hybrid.specs.Stretches.{Stretch, no_step, step_to, stretch}

-- where the state was cleared at a and read to before e: the first start from a on that no letter read could have completed
abbrev pub waiting : List ℕ → ℕ → ℕ → ℕ
waiting P a e = a + (e + 1 - (a + length P))

-- steps from e on: the position after them, and the hits among the starts from the first open one to before it
pub record Fine (P T : List ℕ) (a e : ℕ) (r : Stretch) : Type 0 where
  pub ahead : r.next ≡ e + r.steps
  pub within : r.next ≤ length T
  pub finds : r.found ≡ hits_from P T (r.next - waiting P a e) (waiting P a e)

module _ (P T : List ℕ) (a : ℕ) (p : 0 < length P) where
  -- at the end of the text no start is left that fits
  fine_end : a ≤ length T → Fine P T a (length T) (no_step (length T))
  fine_end l =
      record {
        ahead = omega arith;
        within = omega arith;
        finds = sym (past_from P T (length T - waiting P a (length T)) (waiting P a (length T)) (omega arith));
      }

  -- at a state of 0 no start is alive
  fine_dead : (e : ℕ) → e ≤ length T → Means P T a e (digits 0) → Fine P T a e (no_step e)
  fine_dead e l m =
      record {
        ahead = omega arith;
        within = l;
        finds = sym (none_from P T (e - waiting P a e) (waiting P a e) (λ i u v. zero_dead P T a e i m (omega arith) (omega arith) (omega arith)));
      }

  -- a step to e settles the start that lies m before e, if it is not below a
  fine_step : (e w : ℕ) (r : Stretch) → a ≤ e → e < length T → Means P T a (e + 1) (digits w) → Fine P T a (e + 1) r → Fine P T a e (step_to P (e + 1) w r)
  unfolding starts_from
  fine_step e w r l k m f =
      let g : r.next ≡ e + 1 + r.steps = f.ahead in
      let h = f.finds in
      let t = top_hit P T a (e + 1) w m p (omega arith) in
      record {
        ahead = omega arith;
        within = f.within;
        finds =
            bool_cases (leb (a + length P) (e + 1))
            (λ y. let u : a + length P ≤ e + 1 = leb-true _ _ y in
            let x : waiting P a e ≡ e + 1 - length P = omega arith in
            let z : r.next - (e + 1 - length P) ≡ suc (r.next - waiting P a (e + 1)) = omega arith in
            let v : waiting P a (e + 1) ≡ suc (e + 1 - length P) = omega arith in
            rw (t, y, x, z, h, v))
            (λ n. let u : e + 1 < a + length P = leb-false _ _ n in
            let x : waiting P a e ≡ waiting P a (e + 1) = omega arith in
            rw (t, n, x) h);
      }

  -- every run of steps is fine, by the letters that it has to go
  pub fine : (f e w : ℕ) → a ≤ e → e + f ≡ length T → Means P T a e (digits w) → Fine P T a e (stretch P T f e w)
  unfolding stretch
  fine zero e w l z m = let h : e ≡ length T = omega arith in rw h (fine_end (omega arith))
  fine (suc f) e w l z m =
      let next = stepped P (get_or T e 0) w in
      let n = stepped_means P T a e w m l in
      fine_step e next (cond (eqb next 0) (no_step (e + 1)) (stretch P T f (e + 1) next)) l (omega arith) n
      (bool_cases (eqb next 0)
      (λ y. let h : next ≡ 0 = eqb-true _ _ y in rw y (fine_dead (e + 1) (omega arith) (rw h at n)))
      (λ q. rw q (fine f (e + 1) next (omega arith) (omega arith) n)))

-- where there is a letter there is a step
pub some_step : (P T : List ℕ) (f e w : ℕ) → 0 < f → 0 < (stretch P T f e w).steps
unfolding stretch
some_step P T zero e w l = absurd (omega arith)
some_step P T (suc f) e w l = omega arith
