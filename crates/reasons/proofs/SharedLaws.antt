-- What the shared sets of a start tell: which base letters agree, whether the start is a hit, and that the letter of the bound mode is among them. Assumes nothing.
use mathlib.Core.Path.{◌≡◌, ap, ◌∙◌}
use mathlib.Core.Bool.{true}
use mathlib.Core.List.{List}
use Prim.Native.Nat.{ℕ, ◌+◌, ◌≤◌, ◌<◌}
use native.Mathlib.Omega.{arith}
use lib.ListN.{length, get_or, get_or-map}
use Rattle.letters.specs.Letters.{member, shared}
use Rattle.letters.proofs.LetterLaws.{shared_member, member_shared, compared, shared_mark}
use Rattle.letters.proofs.Truth.{both_ways}
use Rattle.lent.proofs.TableLaws.{length_table, at_table}
use Rattle.hits.specs.Hits.{hit_at}
use Rattle.hits.proofs.MetLaws.{met_at, met_all}
use Rattle.hits.proofs.HitLaws.{hit_is, hit_met}
use Rattle.shifts.specs.Least.{least}
use Rattle.inputs.specs.Refusals.{verdict_at}
use Rattle.std.specs.Prelude.{Ok}
use Rattle.inputs.proofs.CheckLaws.{placed_at}
use Rattle.choices.specs.Choices.{bound_at, lowest_of, lowest_at}
use Rattle.choices.proofs.BoundLaws.{test_bound}
use Rattle.choices.proofs.LowestLaws.{lowest_chosen}
use Rattle.reasons.specs.Reasons.{shared_at}

module _ (P T : List ℕ) (i : ℕ) where
  -- one set for each letter of the pattern, whether the start is a hit or not
  pub length_shared : length (shared_at P T i) ≡ length P
  unfolding shared_at
  length_shared = length_table (λ j. shared (get_or P j 0) (get_or T (i + j) 0)) (length P)

  module _ (j : ℕ) (l : j < length P) where
    pub shared_pair : get_or (shared_at P T i) j 0 ≡ shared (get_or P j 0) (get_or T (i + j) 0)
    unfolding shared_at
    shared_pair = at_table (λ j. shared (get_or P j 0) (get_or T (i + j) 0)) (length P) j l

    -- b is a member of set j exactly if it is one of P[j] and of T[i + j]
    pub agreed_both : (b : ℕ) → member b (get_or (shared_at P T i) j 0) ≡ true → (member b (get_or P j 0) ≡ true) × (member b (get_or T (i + j) 0) ≡ true)
    agreed_both b e = shared_member (get_or P j 0) (get_or T (i + j) 0) b (rw shared_pair at e)

    pub both_agreed : (b : ℕ) → member b (get_or P j 0) ≡ true → member b (get_or T (i + j) 0) ≡ true → member b (get_or (shared_at P T i) j 0) ≡ true
    both_agreed b x y = rw shared_pair (member_shared (get_or P j 0) (get_or T (i + j) 0) b x y)

    -- nothing is shared with an entry mark
    pub agreed_mark : get_or T (i + j) 0 ≡ 0 → get_or (shared_at P T i) j 0 ≡ 0
    agreed_mark z = shared_pair ∙ ap (shared (get_or P j 0)) z ∙ shared_mark (get_or P j 0)

  -- no set is empty
  abbrev pub AllAgree : Type 0
  AllAgree = (j : ℕ) → j < length (shared_at P T i) → get_or (shared_at P T i) j 0 ≡ 0 → ⊥

  -- a start at which P fits is a hit exactly if no set is empty
  pub agree_hit : i + length P ≤ length T → AllAgree → hit_at P T i ≡ true
  agree_hit l f =
      hit_is P T i l
      ∙ met_all P T i 0 (length P) (λ j a b. let k : j < length P = omega arith in (compared (shared_pair j k)).some (f j (omega (arith, length_shared))))

  pub hit_agree : hit_at P T i ≡ true → AllAgree
  hit_agree e j l z =
      let k : j < length P = omega (arith, length_shared) in
      both_ways _ (met_at P T i 0 (length P) j (hit_met P T i e) (omega arith) (omega arith)) ((compared (shared_pair j k)).none z)

  lowest_at_lem : (j : ℕ) → get_or (lowest_at P T i) j 0 ≡ lowest_of P T i (get_or P j 0)
  unfolding lowest_at lowest_of least
  lowest_at_lem j = get_or-map (lowest_of P T i) P j 0

  -- at a bound-listed start the base letter that the bound mode gives to P[j] is a member of set j
  pub bound_agreed : bound_at P T i ≡ true → (j : ℕ) → j < length P → member (get_or (lowest_at P T i) j 0) (get_or (shared_at P T i) j 0) ≡ true
  bound_agreed e j l =
      let h = test_bound P T i e in
      let w = lowest_chosen P T i h.choice h.right in
      rw (lowest_at_lem j)
      (both_agreed j l (lowest_of P T i (get_or P j 0)) (w.above j l)
      (ap (λ (b : ℕ). member b (get_or T (i + j) 0)) (w.agree j l) ∙ w.under j l))

-- what passed the checks has no more sets than the longest pattern has letters
pub shared_short : (K M N k : ℕ) (P T : List ℕ) (i lent : ℕ) → verdict_at K M N k P T i lent ≡ Ok tt → length (shared_at P T i) ≤ M
shared_short K M N k P T i lent e = omega (arith, length_shared P T i, (placed_at K M N k P T i lent e).0.pattern.short)
