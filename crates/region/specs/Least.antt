-- What the distance to a region's boundary is: no ring's nearest point is nearer, the outer one's or a hole's.
-- Proved in `proofs/Least.antt`. Assumes nothing.
use Rattle.std.specs.Prelude.{ℕ, ◌≤◌, ◌≡◌, false}
use Rattle.std.specs.Float.Ieee.{lt}
use Rattle.plane.specs.declared.PlanarPoint.{PlanarPoint}
use Rattle.plane.specs.Points.{distance_to}
use Rattle.ring_near.specs.Near.{nearest}
use Rattle.region.specs.declared.Region.{Region}
use Rattle.region.specs.Regions.{ring_points, ring_count, distance_to_boundary}

-- ring 0 is the outer one, ring l + 1 is hole l
abbrev pub BoundaryLeast : Type 0
BoundaryLeast =
    (r : Region) (p : PlanarPoint) (l : ℕ) → l ≤ r.holes →
    lt (distance_to p (nearest (ring_points r l) (ring_count r l) p).foot) (distance_to_boundary r p) ≡ false
