-- mod.rs: `PlanarPoint::from_metres` and `distance_to`. Assumes nothing.
use Rattle.std.specs.Prelude.{cond, Float}
use Rattle.error.specs.declared.Refusal.{Refusal}
use Rattle.error.specs.declared.Refusal.TheVariants.{Granted, NotFinite}
use Rattle.error.specs.Refusals.{granted}
use Rattle.math.specs.Number.{zero_float, finite, distance}
use Rattle.hypotenuse.specs.Hypot.{hypot}
use Rattle.plane.specs.declared.PlanarPoint.{PlanarPoint}
use Rattle.plane.specs.declared.NewPoint.{NewPoint}
use Rattle.plane.specs.Plane.{point, sub}

-- ---- points

-- `PlanarPoint::ORIGIN`
abbrev pub origin : PlanarPoint
origin = point zero_float zero_float

-- question 2 of a point: east first
unfoldable pub check_point : PlanarPoint → Refusal
check_point p = cond (finite p.east) (cond (finite p.north) Granted (NotFinite 1)) (NotFinite 0)

unfoldable pub point_if : PlanarPoint → Refusal → NewPoint
point_if p r = cond (granted r) (record { refusal = Granted; point = p }) (record { refusal = r; point = origin })

-- `from_metres`; refused, the point beside it is the origin
unfoldable pub from_metres : Float → Float → NewPoint
from_metres east north = point_if (point east north) (check_point (point east north))

-- the length of a vector
unfoldable pub length_of : PlanarPoint → Float
length_of v = hypot v.east v.north

-- `distance_to`: an infinite or NaN distance reads 0
unfoldable pub distance_to : PlanarPoint → PlanarPoint → Float
distance_to p q = distance (length_of (sub q p))

-- opens every definition above, for a proof that computes with all of them
unfoldable pub open_points : Unit {0}
unfolding check_point point_if from_metres length_of distance_to
open_points = tt
