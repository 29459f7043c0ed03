-- The bytes of a sheet, line by line, and how many they are. Assumes nothing.
use mathlib.Core.Path.{◌≡◌, sym, ap, ◌∙◌}
use mathlib.Core.List.{List, [], ◌∷◌, ◌++◌, append_assoc}
use Prim.Native.Nat.{ℕ, ◌+◌, ◌*◌, ◌^◌, ◌≤◌, ◌<◌}
use native.Mathlib.Nat.{mul-le-mul}
use native.Mathlib.Omega.{arith}
use lib.ListN.{length, length-append}
use Rattle.decimal.specs.Decimal.{decimal, ended}
use Rattle.decimal.proofs.DecimalLaws.{ended_length, ended_fits}
use Rattle.notation.specs.Spelling.{line}
use Rattle.spelling.proofs.LineLaws.{line_most}
use Rattle.sheet.specs.Bytes.{sheet_bytes}

-- a line and what follows it
line_and : (xs rest : List ℕ) → xs ++ (10 ∷ rest) ≡ (xs ++ (10 ∷ [])) ++ rest
line_and xs rest = sym (append_assoc xs (10 ∷ []) rest)

module _ (A P T : List ℕ) where
  pub sheet_parts : sheet_bytes A P T ≡ ended (length A) 10 ++ ((A ++ (10 ∷ [])) ++ (ended (length P) 10 ++ (line A P ++ (ended (length T) 10 ++ line A T))))
  unfolding sheet_bytes ended
  sheet_parts =
      line_and (decimal (length A)) _
      ∙ ap (λ (xs : List ℕ). ended (length A) 10 ++ xs) (line_and A _
      ∙ ap (λ (xs : List ℕ). (A ++ (10 ∷ [])) ++ xs) (line_and (decimal (length P)) _
      ∙ ap (λ (xs : List ℕ). ended (length P) 10 ++ (line A P ++ xs)) (line_and (decimal (length T)) (line A T))))

  pub sheet_length : length (sheet_bytes A P T)
      ≡ length (decimal (length A)) + 1 + length A + 1 + (length (decimal (length P)) + 1 + length (line A P)) + (length (decimal (length T)) + 1 + length (line A T))
  sheet_length = rw sheet_parts (simp (length-append, ended_length) (omega arith))

  -- it is small where the strings are
  pub sheet_small : (K M N : ℕ) → length A ≤ K → length P ≤ M → length T ≤ N → K < 2 ^ 64 → M < 2 ^ 64 → N < 2 ^ 64
      → length (sheet_bytes A P T) ≤ K + (K + 2) * M + (K + 2) * N + 66
  sheet_small K M N k m n hk hm hn =
      let two : length A + 2 ≤ K + 2 = omega arith in
      omega (
        arith,
        sheet_length,
        digits (length A) (omega arith),
        digits (length P) (omega arith),
        digits (length T) (omega arith),
        line_most A P,
        line_most A T,
        mul-le-mul two m,
        mul-le-mul two n,
      )
    where
      digits : (x : ℕ) → x < 2 ^ 64 → length (decimal x) ≤ 20
      digits x h = omega (arith, ended_length x 10, ended_fits x 10 h)
