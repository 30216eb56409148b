-- R-9 in numbers, computed: turns that the rounded cross product gets wrong, and numbers that are not finite. Numbers are given by their
-- bits. Proved in `proofs/Examples.antt`. Assumes nothing.
use Rattle.std.specs.Prelude.{◌≡◌, false, ℕ, Float}
use Rattle.std.specs.Float.{inf, binary64}
use Rattle.std.specs.Float.Ieee.{of_bits}
use Rattle.math.specs.Number.{sub, zero_float}
use Rattle.plane.specs.declared.PlanarPoint.{PlanarPoint}
use Rattle.plane.specs.Plane.{point, cross}
use Rattle.plane.specs.Plane as plane
use Rattle.turn.specs.declared.Turn.TheVariants.{Left, Right, Straight, Unknown}
use Rattle.turn.specs.Turns.{turn}

abbrev pub at : ℕ → ℕ → PlanarPoint
at x y = point (of_bits binary64 x) (of_bits binary64 y)

-- polygon.rs, `orient`: the cross product with every step rounded
abbrev pub rounded : PlanarPoint → PlanarPoint → PlanarPoint → Float
rounded a b c = cross (plane.sub b a) (plane.sub c a)

abbrev pub minus_one : ℕ
minus_one = 0xbff0000000000000

abbrev pub one : ℕ
one = 0x3ff0000000000000

abbrev pub two : ℕ
two = 0x4000000000000000

abbrev pub twelve : ℕ
twelve = 0x4028000000000000

abbrev pub twenty_four : ℕ
twenty_four = 0x4038000000000000

-- 0.5 and the next double, 0.5000000000000001
abbrev pub half : PlanarPoint
half = at 0x3fe0000000000000 0x3fe0000000000001

-- 1e-17
abbrev pub speck : ℕ
speck = 0x3c670ef54646d497

-- the largest double and the lowest, ±1.8e308
abbrev pub largest : ℕ
largest = 0x7fefffffffffffff

abbrev pub lowest : ℕ
lowest = 0xffefffffffffffff

abbrev pub minus_zero : ℕ
minus_zero = 0x8000000000000000

pub record TurnExamples : Type 0 where
  -- (0, 0), (1, 0), (1, 1), and the mirror
  pub to_left : turn (at 0 0) (at one 0) (at one one) ≡ Left
  pub to_right : turn (at 0 0) (at one 0) (at one minus_one) ≡ Right
  -- (0.5, 0.5000000000000001), (12, 12), (24, 24): rounding loses the turn
  pub beside_line : turn half (at twelve twelve) (at twenty_four twenty_four) ≡ Left
  pub beside_line_rounded : rounded half (at twelve twelve) (at twenty_four twenty_four) ≡ zero_float
  -- (0, 0), (5e-324, 5e-324), (1e-323, 1e-323) and (1e-323, 1.5e-323): the smallest doubles; their products round to 0
  pub smallest : turn (at 0 0) (at 1 1) (at 2 2) ≡ Straight
  pub smallest_bend : turn (at 0 0) (at 1 1) (at 2 3) ≡ Left
  pub smallest_rounded : rounded (at 0 0) (at 1 1) (at 2 3) ≡ zero_float
  -- (-1.8e308, 0), (1.8e308, 5e-324), (0, 0): the difference of the largest doubles rounds to infinity
  pub widest : turn (at lowest 0) (at largest 1) (at 0 0) ≡ Right
  pub widest_rounded : sub (of_bits binary64 largest) (of_bits binary64 lowest) ≡ inf false
  -- (1, 1), (1e-17, 0), (2, 2): the turn of the points, and not of their differences, where 1e-17 - 1 rounds to -1
  pub speck_away : turn (at one one) (at speck 0) (at two two) ≡ Left
  pub speck_rounded : plane.sub (at speck 0) (at one one) ≡ at minus_one minus_one
  -- -0 and 0 are one number
  pub zeros : turn (at minus_zero 0) (at 0 minus_zero) (at one two) ≡ Straight
  pub zeros_left : turn (at minus_zero minus_zero) (at one minus_zero) (at one one) ≡ Left
  -- an infinite number, and none
  pub infinite : turn (at 0x7ff0000000000000 0) (at 0 0) (at one one) ≡ Unknown
  pub no_number : turn (at 0 0) (at one 0) (at one 0x7ff8000000000000) ≡ Unknown
