-- What an offset and a region's inset ask of one ring of the source. Assumes nothing.
use Rattle.std.specs.Prelude.{ℕ, Bool, cond, not, ◌&&◌, List, Float}
use Rattle.std.specs.Float.Ieee.{le}
use Rattle.math.specs.Number.{infinity}
use Rattle.plane.specs.declared.PlanarPoint.{PlanarPoint}
use Rattle.plane.specs.Plane.{sub, dot}
use Rattle.plane.specs.Points.{distance_to}
use Rattle.segment.specs.Segments.{closest_on_segment}
use Rattle.ring_contain.specs.Contains.{ring_contains}
use Rattle.ring_near.specs.Near.{nearest, clearly}
use Rattle.ring_cross.specs.Meet.{rings_meet}
use Rattle.offset.specs.Clear.{right_side, every_vertex}

-- the squared gap between p and the edge ab, as computed, is clearly below infinity
unfoldable pub surely : PlanarPoint → PlanarPoint → PlanarPoint → Bool
surely p a b = clearly (dot (sub (closest_on_segment p a b) p) (sub (closest_on_segment p a b) p)) infinity

-- how far p is from the ring: from its nearest point where `foot` is asked for, else the least gap
unfoldable pub away : Bool → List Float → ℕ → PlanarPoint → Float
away foot ps n p = cond foot (distance_to p (nearest ps n p).foot) (nearest ps n p).gap

-- p is on the right side of the ring and at least `least` from it, for an offset and for a region's inset
unfoldable pub clear_by : Bool → Bool → Float → List Float → ℕ → PlanarPoint → Bool
clear_by foot outward least ps n p = right_side outward (ring_contains ps n p) && le least (away foot ps n p)

-- p is on the right side of the ring, outside of a hole, and its nearest point at least `least` away
unfoldable pub ring_clear_of : Bool → Float → List Float → ℕ → PlanarPoint → Bool
ring_clear_of outward least ps n p = right_side outward (ring_contains ps n p) && le least (distance_to p (nearest ps n p).foot)

-- every vertex of the second ring is so of the first
unfoldable pub ring_keeps_clear : Bool → Float → List Float → ℕ → List Float → ℕ → Bool
ring_keeps_clear outward least ps n qs m = every_vertex (ring_clear_of outward least ps n) qs m

-- and no edges meet
unfoldable pub ring_stays_clear : Bool → Float → List Float → ℕ → List Float → ℕ → Bool
ring_stays_clear outward least ps n qs m = ring_keeps_clear outward least ps n qs m && not (rings_meet qs m ps n)

-- opens every definition above, for a proof that computes with all of them
unfoldable pub open_rings : Unit {0}
unfolding surely away clear_by ring_clear_of ring_keeps_clear ring_stays_clear
open_rings = tt
