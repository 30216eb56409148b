-- R-9: "The turn of three points becomes its exact sign, left, right or straight, worked out over whole numbers from the bits." It stands
-- where polygon.rs asks the sign of `orient`, the rounded cross product. Assumes nothing.
--
--   unit    2 ^ -1074, the smallest double above 0. A finite double is a whole number of units, fewer than 2 ^ 2098.
--   place   of a coordinate: how many units it lies above -2 ^ 2098 units. Places are whole numbers, 0 being left of and below every
--           double, and the turn of three points is that of their places. `PlaceOfBits` of Laws.antt says what it is of the 64 bits.
use Rattle.std.specs.Prelude.{◌≡◌, Bool, true, false, cond, ◌&&◌, ◌||◌, ℕ, ◌+◌, ◌-◌, ◌*◌, ◌^◌, T, ltb, Float}
use Rattle.std.specs.Float.{nan, inf, fin, binary64}
use Rattle.std.specs.Float.Ieee.{fits}
use Rattle.hypotenuse.specs.Hypot.{count}
use Rattle.math.specs.Number.{finite}
use Rattle.plane.specs.declared.PlanarPoint.{PlanarPoint}
use Rattle.turn.specs.declared.Turn.{Turn}
use Rattle.turn.specs.declared.Turn.TheVariants.{Left, Right, Straight, Unknown}

-- the place of a number that is u units in size, negative where s
unfoldable pub place_of : Bool → ℕ → ℕ
place_of s u = cond s (2 ^ 2098 - u) (2 ^ 2098 + u)

-- the place of a finite double; the others have none
unfoldable pub place : Float → ℕ
place nan = 0
place (inf s) = 0
place (fin s m e) = place_of s (count m e)

-- a point by its two places: whole numbers of units of the smallest double, counted from a corner left of and below every double
pub record Place : Type 0 where
  pub e : ℕ
  pub n : ℕ

abbrev pub place_at : PlanarPoint → Place
place_at p = record { e = place p.east; n = place p.north }

-- (b - a) × (c - a) multiplied out is the left sum less the right sum: `TurnIsSign` of Laws.antt
abbrev pub left_places : Place → Place → Place → ℕ
left_places a b c = a.e * b.n + b.e * c.n + c.e * a.n

abbrev pub right_places : Place → Place → Place → ℕ
right_places a b c = a.n * b.e + b.n * c.e + c.n * a.e

unfoldable pub left_sum : PlanarPoint → PlanarPoint → PlanarPoint → ℕ
left_sum a b c = left_places (place_at a) (place_at b) (place_at c)

unfoldable pub right_sum : PlanarPoint → PlanarPoint → PlanarPoint → ℕ
right_sum a b c = right_places (place_at a) (place_at b) (place_at c)

-- left where the cross product is above 0, right where it is below, straight where it is 0
unfoldable pub by_sums : ℕ → ℕ → Turn
by_sums l r = cond (ltb r l) Left (cond (ltb l r) Right Straight)

unfoldable pub finite_point : PlanarPoint → Bool
finite_point p = finite p.east && finite p.north

-- THE TURN from a by b to c; Unknown where one of the six numbers is infinite or NaN
unfoldable pub turn : PlanarPoint → PlanarPoint → PlanarPoint → Turn
turn a b c = cond (finite_point a && (finite_point b && finite_point c)) (by_sums (left_sum a b c) (right_sum a b c)) Unknown

unfoldable pub is_left : Turn → Bool
is_left Left = true
is_left Right = false
is_left Straight = false
is_left Unknown = false

unfoldable pub is_right : Turn → Bool
is_right Left = false
is_right Right = true
is_right Straight = false
is_right Unknown = false

unfoldable pub is_straight : Turn → Bool
is_straight Left = false
is_straight Right = false
is_straight Straight = true
is_straight Unknown = false

-- one to the left and the other to the right
unfoldable pub apart : Turn → Turn → Bool
apart d e = (is_left d && is_right e) || (is_right d && is_left e)

-- ---- points of a statement

-- both numbers are doubles, finite or not
pub record DoublePoint (p : PlanarPoint) : Type 0 where
  pub east_double : T (fits binary64 p.east)
  pub north_double : T (fits binary64 p.north)

-- both numbers are finite doubles
pub record Finite (p : PlanarPoint) : Type 0 where
  pub doubles : DoublePoint p
  pub both_finite : finite_point p ≡ true

-- opens every definition above, for a proof that computes with all of them
unfoldable pub open_turns : Unit {0}
unfolding place_of place left_sum right_sum by_sums finite_point turn is_left is_right is_straight apart
open_turns = tt
