-- The distance less the tolerance, as it is computed, is no less than the distance less 1.001e-9 (1 + distance + extent): four roundings
-- and a factor that is nearly 1e-9. Assumes nothing.
use mathlib.Core.Path.{◌≡◌}
use Prim.Native.Nat.{ℕ, ◌+◌, ◌*◌, ◌/◌, ◌^◌, ◌≤◌, ◌<◌}
use native.Mathlib.Nat.{le_trans, lt_of_le_of_lt, le_of_eq, mul-le-mul_left, mul-le-mul_right, le_of_mul-le-mul_left, mul-lt-mul_of_pos_left, le-add_right}
use native.Mathlib.Omega.{arith}
use lib.Pow.{pow_pos}
use lib.Ieee.{Float}
use Rattle.math.specs.Number.{add, sub, mul}
use Rattle.math.proofs.Signed.{Signed, ◌⊖◌, ◌⊕◌, ◌⊟◌, ◌⊗◌, ◌·◌, total, Close, Small, small_close, small_more}
use Rattle.math.proofs.Operations.{unit, limit, Is, total_small, Result, mul_near}
use Rattle.margins.proofs.Scale.{Range, sixty, coarse_enough, below_limit}
use Rattle.margins.proofs.DotProduct.{Part, summed, difference}

-- the number that the gap has to reach, of a distance D
pub record Reachable (z : Float) (D R : ℕ) : Type 0 where
  pub units : Signed
  pub is : Is z units
  pub tolerance : 10 ^ 12 * D ≤ 10 ^ 12 * units.plus + 1001 * R
  pub small : units.plus ≤ 3 * R

-- t is at most 1025 / 1024 / 10 ^ 9 of R, and not far below 0
record Tolerated (t : Signed) (R : ℕ) : Type 0 where
  above : 1024 * 10 ^ 9 * t.plus ≤ 1024 * 10 ^ 9 * t.minus + 1025 * R
  below : t.minus ≤ t.plus + R

-- ---- the tolerance in numbers: u t is close to k s, and s to R

product_error : (u k R : ℕ) → k ≤ u → 2 ^ 60 ≤ R → 2 ^ 51 * ((k * (2 * R) + 2 ^ 52 * u) / 2 ^ 53) ≤ u * R
product_error u k R ku large =
    floor (k * (2 * R) + 2 ^ 52 * u) (u * R)
    (sum (k * (2 * R)) (u * R) u (le_trans (mul-le-mul_right (2 * R) ku) (le_of_eq (two u R))) (scaled (mul-le-mul_left u large)))
  where
    two : (u R : ℕ) → u * (2 * R) ≡ 2 * (u * R)
    two u R = omega arith

    scaled : u * 2 ^ 60 ≤ u * R → 2 ^ 60 * u ≤ u * R
    scaled h = omega arith

    sum : (x y u : ℕ) → x ≤ 2 * y → 2 ^ 60 * u ≤ y → x + 2 ^ 52 * u ≤ 3 * y
    sum x y u a b = omega arith

    floor : (x y : ℕ) → x ≤ 3 * y → 2 ^ 51 * (x / 2 ^ 53) ≤ y
    floor x y h = omega arith

-- a tolerance t of which u times is close to k s, where s is close to R
module _ (t s : Signed) (u k R e f : ℕ) (U : 0 < u) (ct : Close (u · t) ((k ⊖ 0) ⊗ s) f) (cs : Close s (R ⊖ 0) e)
    (bf : 2 ^ 51 * f ≤ u * R) (be : 2 ^ 49 * e ≤ R) where
  -- 10 ^ 9 * 2 ^ 40 times the tolerance
  from_above : 10 ^ 9 * (2 ^ 40 * k) ≤ (2 ^ 40 + 1) * u → 10 ^ 9 * (2 ^ 40 * t.plus) ≤ 10 ^ 9 * (2 ^ 40 * t.minus) + (2 ^ 40 + 1) * (R + e) + 10 ^ 9 * R
  from_above kb =
      le_of_mul-le-mul_left {k = u}
      (le_trans (le_of_eq (out u t.plus))
      (le_trans (numbers (u * t.plus) (u * t.minus) (k * (R + e)) (u * (R + e)) (u * R)
      (first (mul-le-mul_left k cs.above) ct.above) (spread (R + e) (mul-le-mul_right (R + e) kb)) bf)
      (le_of_eq (back u t.minus (R + e) R))))
      U
    where
      first : k * (s.plus + 0) ≤ k * (s.minus + R + e) → u * t.plus + (k * s.minus + 0 * s.plus) ≤ u * t.minus + (k * s.plus + 0 * s.minus) + f
          → u * t.plus ≤ u * t.minus + k * (R + e) + f
      first a b = omega arith

      spread : (w : ℕ) → 10 ^ 9 * (2 ^ 40 * k) * w ≤ (2 ^ 40 + 1) * u * w → 10 ^ 9 * (2 ^ 40 * (k * w)) ≤ (2 ^ 40 + 1) * (u * w)
      spread w h = omega arith

      numbers : (a b c d g : ℕ) → a ≤ b + c + f → 10 ^ 9 * (2 ^ 40 * c) ≤ (2 ^ 40 + 1) * d → 2 ^ 51 * f ≤ g
          → 10 ^ 9 * (2 ^ 40 * a) ≤ 10 ^ 9 * (2 ^ 40 * b) + (2 ^ 40 + 1) * d + 10 ^ 9 * g
      numbers a b c d g h k l = omega arith

      out : (u x : ℕ) → u * (10 ^ 9 * (2 ^ 40 * x)) ≡ 10 ^ 9 * (2 ^ 40 * (u * x))
      out u x = omega arith

      back : (u y w R : ℕ)
          → 10 ^ 9 * (2 ^ 40 * (u * y)) + (2 ^ 40 + 1) * (u * w) + 10 ^ 9 * (u * R) ≡ u * (10 ^ 9 * (2 ^ 40 * y) + (2 ^ 40 + 1) * w + 10 ^ 9 * R)
      back u y w R = omega arith

  from_below : k ≤ u → t.minus ≤ t.plus + R
  from_below ku =
      le_of_mul-le-mul_left {k = u} (last ct.below (mul-le-mul_left k (drop cs.below)) (mul-le-mul_right e ku) (scaled (mul-le-mul_left u be)) bf) U
    where
      drop : s.minus + R ≤ s.plus + 0 + e → s.minus ≤ s.plus + e
      drop h = omega arith

      scaled : u * (2 ^ 49 * e) ≤ u * R → 2 ^ 49 * (u * e) ≤ u * R
      scaled h = omega arith

      last : u * t.minus + (k * s.plus + 0 * s.minus) ≤ u * t.plus + (k * s.minus + 0 * s.plus) + f → k * s.minus ≤ k * (s.plus + e) → k * e ≤ u * e
          → 2 ^ 49 * (u * e) ≤ u * R → 2 ^ 51 * f ≤ u * R → u * t.minus ≤ u * (t.plus + R)
      last a b c d g = omega arith

  tolerated : k ≤ u → 10 ^ 9 * (2 ^ 40 * k) ≤ (2 ^ 40 + 1) * u → Tolerated t R
  tolerated ku kb = record { above = cut t.plus t.minus (from_above kb); below = from_below ku }
    where
      slight : 2 ^ 49 * e ≤ R → (2 ^ 40 + 1) * e ≤ R
      slight b = omega arith

      out : (x : ℕ) → 2 ^ 30 * (1024 * 10 ^ 9 * x) ≡ 10 ^ 9 * (2 ^ 40 * x)
      out x = omega arith

      more : (y : ℕ) → (2 ^ 40 + 1) * e ≤ R → 10 ^ 9 * (2 ^ 40 * y) + (2 ^ 40 + 1) * (R + e) + 10 ^ 9 * R ≤ 10 ^ 9 * (2 ^ 40 * y) + 2 ^ 30 * (1025 * R)
      more y b = omega arith

      back : (y R : ℕ) → 10 ^ 9 * (2 ^ 40 * y) + 2 ^ 30 * (1025 * R) ≡ 2 ^ 30 * (1024 * 10 ^ 9 * y + 1025 * R)
      back y R = omega arith

      cut : (x y : ℕ) → 10 ^ 9 * (2 ^ 40 * x) ≤ 10 ^ 9 * (2 ^ 40 * y) + (2 ^ 40 + 1) * (R + e) + 10 ^ 9 * R → 1024 * 10 ^ 9 * x ≤ 1024 * 10 ^ 9 * y + 1025 * R
      cut x y h =
          le_of_mul-le-mul_left {k = 2 ^ 30} (le_trans (le_of_eq (out x)) (le_trans h (le_trans (more y (slight be)) (le_of_eq (back y R))))) (pow_pos 30)

-- ---- the floats: d the distance, ext the extent, tol the factor, which is k units

module _ {d ext one tol : Float} {u D M k : ℕ} (R : ℕ) (range : Range R) (id : Is d (D ⊖ 0)) (ie : Is ext (M ⊖ 0)) (i1 : Is one (u ⊖ 0)) (it : Is tol (k ⊖ 0))
    (r : R ≡ u + D + M) where
  within : {x y : ℕ} → x ≤ 2 * R → y ≤ 2 * R → x + y < limit
  within {x} {y} h k = below_limit (x + y) range (omega arith)

  -- 1 + d
  first : Part (add one d) (u ⊖ 0 ⊕ D ⊖ 0) (2 ^ 52) R R
  first = summed i1 id (within (omega arith) (omega arith)) (record { above = omega arith; below = omega arith }) (omega (arith, sixty range))

  first_size : total first.units ≤ 2 * R
  first_size = total_small first.is (small_more (small_close first.close first.small) (omega (arith, first.bound)))

  -- and the extent
  second : Part (add (add one d) ext) (first.units ⊕ M ⊖ 0) (2 ^ 52) (2 * R) (2 * R)
  second = summed first.is ie (within first_size (omega arith)) small (coarse_enough range)
    where
      small : Small (first.units ⊕ M ⊖ 0) (2 * R)
      small = record { above = omega (arith, first.bound, first.close.above); below = omega (arith, first.bound, first.close.below) }

  -- all three together are close to R
  sum_close : Close second.units (R ⊖ 0) (first.e + second.e)
  sum_close = record { above = omega (arith, first.close.above, second.close.above); below = omega (arith, first.close.below, second.close.below) }

  sum_error : 2 ^ 49 * (first.e + second.e) ≤ R
  sum_error = omega (arith, first.bound, second.bound)

  sum_size : total second.units ≤ 2 * R
  sum_size = total_small second.is (record { above = omega (arith, sum_close.above, sum_error); below = omega (arith, sum_close.below, sum_error) })

  module _ (kb : 10 ^ 9 * (2 ^ 40 * k) ≤ (2 ^ 40 + 1) * unit) (ku : k ≤ unit) where
    -- the tolerance
    product : Result (mul tol (add (add one d) ext)) ((k ⊖ 0) ⊗ second.units) unit (k * (2 * R))
    product = mul_near it second.is (lt_of_le_of_lt size fine) size
      where
        plain : (k x : ℕ) → (k + 0) * x ≡ k * x
        plain k x = omega arith

        size : total (k ⊖ 0) * total second.units ≤ k * (2 * R)
        size = le_trans (le_of_eq (plain k (total second.units))) (mul-le-mul_left k sum_size)

        fine : k * (2 * R) < unit * limit
        fine = lt_of_le_of_lt (mul-le-mul_right (2 * R) ku) (mul-lt-mul_of_pos_left (below_limit (2 * R) range (omega arith)) (pow_pos 1074))

    slack : Tolerated product.units R
    slack =
        tolerated product.units second.units unit k R (first.e + second.e) ((k * (2 * R) + 2 ^ 52 * unit) / 2 ^ 53) (pow_pos 1074)
        product.close sum_close (product_error unit k R ku (sixty range)) sum_error ku kb

    -- the distance less the tolerance
    less : Part (sub d (mul tol (add (add one d) ext))) (D ⊖ 0 ⊟ product.units) (2 ^ 52) (2 * R) (2 * R)
    less = difference id product.is (within (omega arith) (total_small product.is small)) rest (coarse_enough range)
      where
        small : Small product.units (2 * R)
        small = record { above = omega (arith, slack.above); below = omega (arith, slack.below) }

        rest : Small (D ⊖ 0 ⊟ product.units) (2 * R)
        rest = record { above = omega (arith, slack.below); below = omega (arith, slack.above) }

    pub reachable : Reachable (sub d (mul tol (add (add one d) ext))) D R
    reachable = record {
      units = less.units;
      is = less.is;
      tolerance = last product.units less.units less.e slack less.close less.bound;
      small = le_trans (le-add_right less.units.plus less.units.minus)
          (total_small less.is (small_more (small_close less.close less.small) (omega (arith, less.bound))));
    }
      where
        last : (t s : Signed) (e : ℕ) → Tolerated t R → Close s (D ⊖ 0 ⊟ t) e → 2 ^ 52 * e ≤ 2 * R → 10 ^ 12 * D ≤ 10 ^ 12 * s.plus + 1001 * R
        last t s e h c b = omega (arith, h.above, c.below)
