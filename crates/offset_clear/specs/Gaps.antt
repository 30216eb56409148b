-- What the code asks of one edge in place of the nearest point: whether its gap is below a number. Assumes nothing.
use Rattle.std.specs.Prelude.{Bool, Float}
use Rattle.std.specs.Float.Ieee.{lt}
use Rattle.plane.specs.declared.PlanarPoint.{PlanarPoint}
use Rattle.plane.specs.Plane.{sub}
use Rattle.plane.specs.Points.{length_of}
use Rattle.segment.specs.Segments.{closest_on_segment}

-- the gap between p and the edge ab is below `least`
unfoldable pub falls_short : PlanarPoint → PlanarPoint → PlanarPoint → Float → Bool
falls_short p a b least = lt (length_of (sub (closest_on_segment p a b) p)) least

-- opens every definition above, for a proof that computes with all of them
unfoldable pub open_gaps : Unit {0}
unfolding falls_short
open_gaps = tt
