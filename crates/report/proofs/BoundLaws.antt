-- How long the report of an accepted sheet can be, by the largest sheet and the longest pattern. Assumes nothing.
use Prim.Native.Nat.{ℕ, zero, suc, ◌+◌, ◌-◌, ◌*◌, ◌/◌, ◌%◌, ◌^◌, ◌≤◌, ◌<◌}
use mathlib.Core.Path.{◌≡◌, ap}
use mathlib.Core.List.{List, [], ◌∷◌, ◌++◌, map}
use native.Mathlib.Nat.{pow-suc}
use native.Mathlib.Omega.{arith}
use borrow.Author.Tests.{ltb-true, ltb-false}
use lib.Dec.{ltb}
use lib.ListN.{length, length-append}
use Rattle.letters.specs.Sizes.{Sized}
use Rattle.letters.proofs.Truth.{bool_cases}
use Rattle.hits.specs.Hits.{hit_at, starts_from, hits_from, hits}
use Rattle.hits.proofs.HitLaws.{from_enough, length_hits}
use Rattle.decimal.specs.Decimal.{decimal_to, decimal, ended}
use Rattle.decimal.proofs.DecimalLaws.{dec_small, dec_more, ended_length, ended_short}
use Rattle.engines.specs.declared.engine.Engine.{Engine}
use Rattle.engines.specs.Engines.{the_six, run_of}
use Rattle.engines.proofs.CountLaws.{most_of, counts_within}
use Rattle.reportbytes.specs.Bytes.{start_lines, engine_line, engine_lines, bytes_of}
use Rattle.reportbytes.proofs.LineLaws.{counts_length, engine_length, bytes_length}
use Rattle.report.specs.Values.{values_of}

-- a larger number has no fewer digits
digits_more : (f n m : ℕ) → n ≤ m → length (decimal_to f n) ≤ length (decimal_to f m)
unfolding decimal_to
digits_more zero n m h = omega arith
digits_more (suc f) n m h =
    let last : (x : ℕ) → length (decimal_to f (x / 10) ++ ((48 + x % 10) ∷ [])) ≡ length (decimal_to f (x / 10)) + 1 = λ x. length-append (decimal_to f (x / 10)) ((48 + x % 10) ∷ []) in
    bool_cases (ltb n 10)
    (λ y. let a = ltb-true n 10 y in
    bool_cases (ltb m 10)
    (λ z. omega (arith, ap length (dec_small f n a), ap length (dec_small f m (ltb-true m 10 z))))
    (λ z. omega (arith, ap length (dec_small f n a), ap length (dec_more f m (ltb-false m 10 z)), last m)))
    (λ y. let a = ltb-false n 10 y in
    omega (arith, ap length (dec_more f n a), ap length (dec_more f m (omega arith)), last n, last m, digits_more f (n / 10) (m / 10) (omega arith)))

ended_more : (n m b : ℕ) → n ≤ m → length (ended n b) ≤ length (ended m b)
unfolding decimal
ended_more n m b h = omega (arith, ended_length n b, ended_length m b, digits_more 20 n m h)

-- the bytes of a line for each start below c: a digit and LF; and a digit more for those from 10 on, from 100 on, to the power w of 10
unfoldable pub sizes : ℕ → ℕ → ℕ
sizes zero c = 2 * c
sizes (suc w) c = sizes w c + (c - 10 ^ suc w)

sizes_full : (w a : ℕ) → 10 ^ w ≤ a → sizes w a + (w + 2) ≤ sizes w (suc a)
unfolding sizes
sizes_full zero a h = omega arith
sizes_full (suc w) a h = omega (arith, sizes_full w a (omega (arith, pow-suc 10 w)))

sizes_one : (w a : ℕ) → w < 20 → a < 10 ^ suc w → length (ended a 10) + sizes w a ≤ sizes w (suc a)
unfolding sizes
sizes_one zero a l h = omega (arith, ended_short 1 a 10 h (omega arith) (omega arith))
sizes_one (suc w) a l h =
    bool_cases (ltb a (10 ^ suc w))
    (λ y. omega (arith, sizes_one w a (omega arith) (ltb-true a (10 ^ suc w) y)))
    (λ n. omega (arith, sizes_full (suc w) a (ltb-false a (10 ^ suc w) n), ended_short (suc (suc w)) a 10 h (omega arith) (omega arith)))

module _ (P T : List ℕ) where
  lines_from : (c a : ℕ) → a + c ≤ 10 ^ 20 → length (start_lines (hits_from P T c a)) + sizes 19 a ≤ sizes 19 (a + c)
  unfolding starts_from start_lines
  lines_from zero a h = let z : a + zero ≡ a = omega arith in rw z (omega arith)
  lines_from (suc c) a h =
      let z : a + suc c ≡ suc a + c = omega arith in
      let ih = lines_from c (suc a) (omega arith) in
      let one = sizes_one 19 a (omega arith) (omega arith) in
      rw z
      (bool_cases (hit_at P T a)
      (λ y. rw y (omega (arith, ih, one, length-append (ended a 10) (start_lines (hits_from P T c (suc a))))))
      (λ n. rw n (omega (arith, ih, one))))

  starts_most : (B : ℕ) → length T < B → B ≤ 10 ^ 20 → length (start_lines (hits P T)) ≤ sizes 19 B
  unfolding hits
  starts_most B h l =
      let e : hits P T ≡ hits_from P T B 0 = from_enough P T (suc (length T)) B 0 (omega arith) (omega arith) in
      let z : 0 + B ≡ B = omega arith in
      omega (arith, ap (λ (xs : List ℕ). length (start_lines xs)) e, ap (sizes 19) z, lines_from B 0 (omega arith))

-- the lines of engines whose counts are within those of others
module _ {M N : ℕ} {P T : List ℕ} (s : Sized M N P T) where
  line_most : (e : Engine) → length (engine_line e (run_of e P T)) ≤ length (engine_line e (most_of e M N))
  line_most e =
      let r = run_of e P T in
      let t = most_of e M N in
      let w = counts_within s e in
      omega (
        arith,
        engine_length e r,
        engine_length e t,
        counts_length r,
        counts_length t,
        ended_more r.scan t.scan 32 w.scan,
        ended_more r.shift t.shift 32 w.shift,
        ended_more r.steps t.steps 10 w.steps,
      )

  lines_most : (es : List Engine) → length (engine_lines es (map (λ (e : Engine). run_of e P T) es)) ≤ length (engine_lines es (map (λ (e : Engine). most_of e M N) es))
  unfolding engine_lines
  lines_most [] = omega arith
  lines_most (e ∷ es) = simp length-append (omega (arith, line_most e, lines_most es))

-- no report of a sheet of B bytes with a pattern of M letters is longer
unfoldable pub most : ℕ → ℕ → ℕ
most B M = 5 + length (ended B 10) + sizes 19 B + length (engine_lines the_six (map (λ (e : Engine). most_of e M B) the_six))

pub bytes_most : {B M : ℕ} {P T : List ℕ} → Sized M B P T → length T < B → B ≤ 10 ^ 20 → length (bytes_of (values_of P T)) ≤ most B M
unfolding values_of most
bytes_most {B} {M} {P} {T} s h l =
    omega (arith, bytes_length (values_of P T), ended_more (length (hits P T)) B 10 (omega (arith, length_hits P T)), starts_most P T B h l, lines_most s the_six)
