-- Numbers that are returned as signed ones. Assumes nothing.
use mathlib.Core.Path.{◌≡◌, sym, ap, ◌∙◌, subst}
use Prim.Native.Nat.{ℕ, zero, suc, ◌^◌, ◌<◌}
use native.Mathlib.Omega.{arith}
use lib.IntN.{ℤ, pos, neg_ℤ, ◌-ℤ◌, +ℤ_idl}
use lib.Signed.{mag}
use mir.Syntax.{w64}
use mir.Val.{SFits, to_z, of_z}
use mir.ValLaws.{to_z_pos, to_z-of_z}

module _ (n : ℕ) (h : n < 2 ^ 63) where
  less : pos 0 -ℤ to_z w64 n ≡ neg_ℤ (pos n)
  less = ap (λ (z : ℤ). pos 0 -ℤ z) (to_z_pos w64 n (omega arith)) ∙ +ℤ_idl (neg_ℤ (pos n))

  pub minus_fits : SFits w64 (pos 0 -ℤ to_z w64 n)
  minus_fits = subst (λ (z : ℤ). SFits w64 z) (sym less) (small n h)
    where
      small : (n : ℕ) → n < 2 ^ 63 → SFits w64 (neg_ℤ (pos n))
      small zero h = record { sfits = omega arith }
      small (suc n) h = record { sfits = omega arith }

  -- minus n, as the machine holds it
  pub minus_is : to_z w64 (of_z w64 (pos 0 -ℤ to_z w64 n)) ≡ neg_ℤ (pos n)
  minus_is = to_z-of_z w64 (pos 0 -ℤ to_z w64 n) minus_fits ∙ less

-- a signed number that a call gave, as the machine reads it back
pub read_back : (z : ℤ) → mag z < 2 ^ 63 → to_z w64 (of_z w64 z) ≡ z
read_back z h = to_z-of_z w64 z (record { sfits = h })
