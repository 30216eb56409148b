-- What the nearest point of a boundary is: no edge is nearer, not even the closing one, and its gap is the distance to it, or
-- infinity. Proved in `proofs/Least.antt`. Assumes nothing.
use Rattle.std.specs.Prelude.{ℕ, ◌<◌, ◌≡◌, true, false, List, Float}
use Rattle.std.specs.Float.Ieee.{lt}
use Rattle.math.specs.Number.{infinity}
use Rattle.plane.specs.declared.PlanarPoint.{PlanarPoint}
use Rattle.plane.specs.Points.{distance_to}
use Rattle.segment.specs.Segments.{closest_on_segment}
use Rattle.ring.specs.Ring.{vertex_at, edge_end}
use Rattle.ring_near.specs.declared.Nearest.{Nearest}
use Rattle.ring_near.specs.Near.{gap_to, nearest}

-- edge k goes from vertex k to the next, and edge n − 1 back to the first
abbrev pub NearestLeast : Type 0
NearestLeast =
    (ps : List Float) (n : ℕ) (p : PlanarPoint) (k : ℕ) → k < n →
    lt (gap_to p (closest_on_segment p (vertex_at ps k) (edge_end ps n k))).gap (nearest ps n p).gap ≡ false

-- the gap is the distance to the foot, or it is infinity, and never a NaN
pub record Footed (p : PlanarPoint) (t : Nearest) : Type 0 where
  pub below : lt t.gap infinity ≡ true → distance_to p t.foot ≡ t.gap
  pub top : lt t.gap infinity ≡ false → t.gap ≡ infinity

abbrev pub NearestFoot : Type 0
NearestFoot = (ps : List Float) (n : ℕ) (p : PlanarPoint) → Footed p (nearest ps n p)
