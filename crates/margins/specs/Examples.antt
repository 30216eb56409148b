-- R-10 in numbers that can be worked out by hand: units, a margin, and the point (3, 5) above the edge from (0, 0) to (10, 0), whose
-- nearest point is (3, 0), at the fraction 3 / 10 and at the distance 5. Proved in `proofs/Examples.antt`. Assumes nothing.
use Rattle.std.specs.Prelude.{◌≡◌, ℕ, ◌*◌, ◌^◌, ◌≤◌, ◌<◌, Float}
use Rattle.std.specs.Float.{binary64}
use Rattle.std.specs.Float.Ieee.{of_bits}
use Rattle.plane.specs.declared.PlanarPoint.{PlanarPoint}
use Rattle.plane.specs.Plane.{point}
use Rattle.margins.specs.Far.{over, under, squared_apart, margin_of, Far}

abbrev pub three : Float
three = of_bits binary64 0x4008000000000000

abbrev pub five : Float
five = of_bits binary64 0x4014000000000000

abbrev pub ten : Float
ten = of_bits binary64 0x4024000000000000

abbrev pub nothing : Float
nothing = of_bits binary64 0x0

abbrev pub p : PlanarPoint
p = point three five

abbrev pub a : PlanarPoint
a = point nothing nothing

abbrev pub b : PlanarPoint
b = point ten nothing

pub record MarginExamples : Type 0 where
  -- 5 in units, -100, and the smallest double
  pub five_units : over five ≡ 5 * 2 ^ 1074
  pub hundred_below : under (of_bits binary64 0xc059000000000000) ≡ 100 * 2 ^ 1074
  pub least : over (of_bits binary64 1) ≡ 1
  -- a margin of 5 where no coordinate is above 100: 5 - 2 × 1e-9 × 106 - 1e-15 × 100 is 4.9999997879999
  pub of_five : margin_of (5 * 2 ^ 1074) (100 * 2 ^ 1074) ≡ 4999999787999900 * 2 ^ 1074
  -- 5² at the fraction 3 / 10, times j² = 10²; 3² + 5² at the start, and 7² + 5² at the end
  pub at_three_tenths : squared_apart p a b 3 10 ≡ 50 * 2 ^ 1074 * (50 * 2 ^ 1074)
  pub at_start : squared_apart p a b 0 1 ≡ 34 * (2 ^ 1074 * 2 ^ 1074)
  pub at_end : squared_apart p a b 1 1 ≡ 74 * (2 ^ 1074 * 2 ^ 1074)
  -- no fraction is nearer than 3 / 10
  pub three_tenths : (k l : ℕ) → k ≤ l → 0 < l → l * l * squared_apart p a b 3 10 ≤ 10 * 10 * squared_apart p a b k l
  -- 10 being the largest coordinate, p keeps a margin of 4, and none of 6
  pub far_by_four : Far (4 * 2 ^ 1074) (10 * 2 ^ 1074) p a b
  pub not_by_six : Far (6 * 2 ^ 1074) (10 * 2 ^ 1074) p a b → ⊥
