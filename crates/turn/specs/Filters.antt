-- The filter of the turn: two rounded products that are far enough apart tell it. What it tells is the exact turn (`quick` of
-- lib.rt); where it tells nothing, whole numbers are asked. Definitions only.
use Rattle.std.specs.Prelude.{◌≡◌, Option, None, Some, Bool, true, ◌&&◌, ◌||◌, Float}
use Rattle.std.specs.Float.{binary64}
use Rattle.std.specs.Float.Ieee.{lt, eq, neg, of_bits}
use Rattle.math.specs.Number.{mul, sub}
use Rattle.plane.specs.declared.PlanarPoint.{PlanarPoint}
use Rattle.turn.specs.declared.Turn.{Turn}
use Rattle.turn.specs.Turns.{DoublePoint}

-- 2 ^ 400
abbrev pub big : Float
big = of_bits binary64 0x58f0000000000000

-- 1 + 2 ^ -30
abbrev pub more : Float
more = of_bits binary64 0x3ff0000000400000

-- 2 ^ -1000
abbrev pub tiny : Float
tiny = of_bits binary64 0x0170000000000000

-- x is below 2 ^ 400 in size, so that no difference and no product of two differences is infinite
unfoldable pub inside : Float → Bool
inside x = lt x big && lt (neg big) x

unfoldable pub inside_point : PlanarPoint → Bool
inside_point p = inside p.east && inside p.north

unfoldable pub inside_points : PlanarPoint → PlanarPoint → PlanarPoint → Bool
inside_points a b c = inside_point a && (inside_point b && inside_point c)

-- the two products whose difference is the cross product
abbrev pub left_product : PlanarPoint → PlanarPoint → PlanarPoint → Float
left_product a b c = mul (sub b.east a.east) (sub c.north a.north)

abbrev pub right_product : PlanarPoint → PlanarPoint → PlanarPoint → Float
right_product a b c = mul (sub b.north a.north) (sub c.east a.east)

-- w is above 0 and larger than v by more than rounding can do
unfoldable pub leads : Float → Float → Bool
leads v w = lt (mul more v) w && lt tiny w

-- v is less than w by more than rounding can do
unfoldable pub surely_less : Float → Float → Bool
surely_less v w = leads v w || leads (neg w) (neg v)

-- in each of the two products one difference is 0
unfoldable pub flat : PlanarPoint → PlanarPoint → PlanarPoint → Bool
flat a b c = (eq b.east a.east || eq c.north a.north) && (eq b.north a.north || eq c.east a.east)

-- three points of which the products may be asked
pub record Ready (a b c : PlanarPoint) : Type 0 where
  pub first : DoublePoint a
  pub second : DoublePoint b
  pub third : DoublePoint c
  pub all_inside : inside_points a b c ≡ true

-- what the filter told: nothing, or the turn
abbrev pub Settled : Option Turn → Turn → Type 0
Settled None u = Unit
Settled (Some t) u = t ≡ u
