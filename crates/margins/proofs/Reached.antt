-- The number that a gap has to reach, distance - 1e-9 (1 + distance + extent) as computed from the bits of 1 and 1e-9. Assumes nothing.
use mathlib.Core.Path.{refl}
use Prim.Native.Nat.{ℕ, ◌+◌, ◌*◌, ◌^◌, ◌≤◌}
use mathlib.Core.Bool.{false}
use native.Mathlib.Nat.{le_trans, le_of_lt, mul-le-mul_right}
use native.Mathlib.Omega.{arith}
use lib.Dec.{leb→le}
use lib.Ieee.{Float, binary64, of_bits}
use lib.Ieee.Exact.{HasValue}
use Rattle.math.specs.Number
use Rattle.math.specs.Number.{one, add, mul}
use Rattle.math.proofs.Operations.{unit, upward}
use Rattle.margins.proofs.Scale.{Range, below_limit}
use Rattle.margins.proofs.Clamp.{one_is}
use Rattle.margins.proofs.Tolerance.{Reachable, reachable}
use Rattle.margins.proofs.Points.{Least}

-- the double nearest to 1e-9
abbrev pub tolerance_factor : Float
tolerance_factor = of_bits binary64 0x3e112e0be826d695

-- 4835703278458517 * 2 ^ -82
factor_value : HasValue tolerance_factor false (4835703278458517 * 2 ^ 992) (2 ^ 1074)
unfolding of_bits
factor_value = (refl, refl)

-- the computed number, of a distance of D units and an extent of M
pub least_of : (d ext : Float) (D M : ℕ) → HasValue d false D (2 ^ 1074) → HasValue ext false M (2 ^ 1074) → 2 ^ 1074 + D + M ≤ 2 ^ 1115
    → Least (Number.sub d (mul tolerance_factor (add (add one d) ext))) D M
least_of d ext D M hd he fine = record {
  units = z.units;
  is = z.is;
  tolerance = z.tolerance;
  small = le_trans z.small (le_of_lt (below_limit (3 * (unit + D + M)) range (mul-le-mul_right (unit + D + M) (omega arith))));
}
  where
    range : Range (unit + D + M)
    range = record { above_one = one_of unit; fine = fine }
      where
        one_of : (u : ℕ) → u ≤ u + D + M
        one_of u = omega arith

    z : Reachable (Number.sub d (mul tolerance_factor (add (add one d) ext))) D (unit + D + M)
    z = reachable (unit + D + M) range (upward d D hd) (upward ext M he) one_is (upward tolerance_factor (4835703278458517 * 2 ^ 992) factor_value) refl
        (leb→le (10 ^ 9 * (2 ^ 40 * (4835703278458517 * 2 ^ 992))) ((2 ^ 40 + 1) * unit) tt) (leb→le (4835703278458517 * 2 ^ 992) unit tt)
