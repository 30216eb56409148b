-- The two sizes that every error of one edge is measured by: R, the units of 1 + distance + largest coordinate, and H, the larger side of
-- the edge. What of them keeps every number of the computation finite and every rounding small. Assumes nothing.
use Prim.Native.Nat.{ℕ, ◌*◌, ◌^◌, ◌≤◌, ◌<◌}
use native.Mathlib.Nat.{le_trans, lt_of_le_of_lt, mul-le-mul, mul-le-mul_left}
use native.Mathlib.Omega.{arith}
use lib.Dec.{leb→le, ltb→lt}
use Rattle.math.proofs.Operations.{unit, limit}

-- R is at least 1, and far below the largest double
pub record Range (R : ℕ) : Type 0 where
  pub above_one : unit ≤ R
  pub fine : R ≤ 2 ^ 1115

-- H is at least 2 ^ 52 units, and no side of the figure is longer than 2 R
pub record Scale (R H : ℕ) : Type 0 where
  pub range : Range R
  pub wide : 2 ^ 52 ≤ H
  pub width : H ≤ 2 * R

-- a unit is a tiny part of R
pub sixty : {R : ℕ} → Range R → 2 ^ 60 ≤ R
sixty r = le_trans (leb→le (2 ^ 60) unit tt) r.above_one

-- so sums of coordinates are rounded to 52 digits and more
pub coarse_enough : {R : ℕ} → Range R → 2 ^ 52 ≤ 2 * R
coarse_enough r = omega (arith, sixty r)

-- no sum of coordinates overflows
pub below_limit : {R : ℕ} (x : ℕ) → Range R → x ≤ 10 * R → x < limit
below_limit x r h = lt_of_le_of_lt (le_trans h (mul-le-mul_left 10 r.fine)) (ltb→lt (10 * 2 ^ 1115) limit tt)

-- nor a product of two sides
pub product_fine : {R H : ℕ} → Scale R H → 6 * (R * H) < unit * limit
product_fine s =
    lt_of_le_of_lt (mul-le-mul_left 6 (mul-le-mul s.range.fine (le_trans s.width (mul-le-mul_left 2 s.range.fine))))
    (ltb→lt (6 * (2 ^ 1115 * (2 * 2 ^ 1115))) (unit * limit) tt)
