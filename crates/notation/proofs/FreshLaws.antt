-- Reading the bytes of an alphabet one after another, over a whole sheet. Assumes nothing.
use mathlib.Core.Path.{◌≡◌, sym, ap, ap₂, ◌∙◌}
use mathlib.Core.Bool.{Bool, true, false}
use mathlib.Core.List.{List, [], ◌∷◌, ◌++◌}
use Prim.Native.Nat.{ℕ, suc, ◌+◌, ◌-◌, ◌≤◌, ◌<◌}
use native.Mathlib.Nat.{add-suc}
use native.Mathlib.Numerals.{add-one}
use native.Mathlib.Omega.{arith}
use borrow.Author.Tests.{eq-eqb, ne_eqb}
use lib.ListN.{length, drop, take, get_or, length-append, length-drop}
use lib.Seq.{drop-cons, drop-length, drop-drop, take-suc, get_or-drop}
use Rattle.notation.specs.Alphabet.{fresh, fresh_from, end_at, wrong_at, alphabet_at}
use Rattle.notation.specs.declared.alphabet.Wrong.{Wrong}
use Rattle.std.proofs.Common.{Result, Ok, Err}
use Rattle.notation.proofs.AlphabetLaws.{fresh_read, alphabet_none}

-- i of the k bytes from `from` on are read
pub record BytesRead (s : List ℕ) (from k i : ℕ) : Type 0 where
  pub few : i ≤ k
  pub within : from + i ≤ length s
  pub ahead : fresh_from [] k from (drop from s) ≡ fresh_from (take i (drop from s)) (k - i) (from + i) (drop (from + i) s)

pub bytes_none : (s : List ℕ) (from k : ℕ) → from ≤ length s → BytesRead s from k 0
bytes_none s from k l = record { few = omega arith; within = omega arith; ahead = ap₂ (λ (x y : ℕ). fresh_from [] x y (drop y s)) (omega arith) (omega arith) }

module _ {s : List ℕ} {from k i : ℕ} (w : BytesRead s from k i) where
  pub bytes_all : k ≤ i → Ok (from + k) ≡ fresh_from [] k from (drop from s)
  unfolding fresh_from
  bytes_all h =
      let e : i ≡ k = omega (arith, w.few) in
      sym (w.ahead ∙ ap₂ (λ (x y : ℕ). fresh_from (take i (drop from s)) x (from + y) (drop (from + y) s)) (let q : k - i ≡ 0 = omega arith in q) e)

  module _ (l : i < k) where
    next : (r : Result ℕ Wrong) → fresh_from (take i (drop from s)) (suc (k - suc i)) (from + i) (drop (from + i) s) ≡ r → fresh_from [] k from (drop from s) ≡ r
    next r e = w.ahead ∙ ap (λ (x : ℕ). fresh_from (take i (drop from s)) x (from + i) (drop (from + i) s)) (let q : k - i ≡ suc (k - suc i) = omega arith in q) ∙ e

    pub bytes_end : from + i ≡ length s → wrong_at (from + i) ≡ fresh_from [] k from (drop from s)
    unfolding fresh_from
    bytes_end e = sym (next _ (ap (λ (j : ℕ). fresh_from (take i (drop from s)) (suc (k - suc i)) (from + i) (drop j s)) e ∙ rw (drop-length s)))

    -- the next byte, and the bytes before it as the code has them
    module _ (h : from + i < length s) (f : Bool) (e : fresh (take (from + i - from) (drop from s)) (get_or s (from + i) 0) ≡ f) where
      same : fresh (take i (drop from s)) (get_or s (from + i) 0) ≡ f
      same = ap (λ (x : ℕ). fresh (take x (drop from s)) (get_or s (from + i) 0)) (let z : i ≡ from + i - from = omega arith in z) ∙ e

      pub bytes_odd : f ≡ false → wrong_at (from + i) ≡ fresh_from [] k from (drop from s)
      unfolding fresh_from
      bytes_odd n = sym (next _ (rw (drop-cons s (from + i) 0 h, same, n)))

      pub bytes_on : f ≡ true → BytesRead s from k (i + 1)
      unfolding fresh_from
      bytes_on y =
          let t : take (suc i) (drop from s) ≡ take i (drop from s) ++ (get_or s (from + i) 0 ∷ []) = take-suc (drop from s) i 0 (omega (arith, length-drop from s)) ∙ ap (λ (x : ℕ). take i (drop from s) ++ (x ∷ [])) (get_or-drop from s i 0) in
          record {
            few = omega arith;
            within = omega arith;
            ahead = next _ (rw (drop-cons s (from + i) 0 h, same, y)
                (ap (λ (xs : List ℕ). fresh_from xs (k - suc i) (suc (from + i)) (drop (suc (from + i)) s)) (sym t) ∙ rw (add-one i, add-suc from i)));
          }

-- the line, where its bytes are wrong or missing
pub line_wrong : (s : List ℕ) (from k : ℕ) (w : Wrong) → Err w ≡ fresh_from [] k from (drop from s) → Err w ≡ alphabet_at k from (drop from s)
unfolding alphabet_at
line_wrong s from k w e = rw (← e)

-- and by the byte after them
module _ (s : List ℕ) (from k e : ℕ) (l : from ≤ length s) (w : Ok e ≡ fresh_from [] k from (drop from s)) where
  far : (e ≡ from + k) × (e ≤ length s)
  far =
      let r = fresh_read [] k from (drop from s) e alphabet_none (sym w) in
      (r.place, omega (arith, r.place, r.size, ap length r.split, length-append r.bytes r.rest, length-drop from s))

  pub line_within : e ≤ length s
  line_within = far.1

  ends : alphabet_at k from (drop from s) ≡ end_at e (drop e s)
  unfolding alphabet_at
  ends = rw (← w) (ap (end_at e) (drop-drop k from s ∙ ap (λ (i : ℕ). drop i s) (sym far.0)))

  pub line_short : e ≡ length s → wrong_at e ≡ alphabet_at k from (drop from s)
  unfolding end_at
  line_short z = sym (ends ∙ ap (λ (i : ℕ). end_at e (drop i s)) z ∙ rw (drop-length s))

  module _ (h : e < length s) where
    pub line_ended : get_or s e 0 ≡ 10 → Ok (e + 1) ≡ alphabet_at k from (drop from s)
    unfolding end_at
    line_ended z = sym (ends ∙ rw (drop-cons s e 0 h, eq-eqb (get_or s e 0) 10 z) (ap Ok (sym (add-one e))))

    pub line_unended : (get_or s e 0 ≡ 10 → ⊥) → wrong_at e ≡ alphabet_at k from (drop from s)
    unfolding end_at
    line_unended z = sym (ends ∙ rw (drop-cons s e 0 h, ne_eqb (get_or s e 0) 10 z))
