-- A region's inset against its source, ring against ring: what the code asks in place of every vertex against the whole source. Assumes
-- nothing.
use Rattle.std.specs.Prelude.{ℕ, Bool, true, false, ◌&&◌, List, Float}
use Rattle.base.specs.Loop.{rounds}
use Rattle.region.specs.declared.Region.{Region}
use Rattle.region.specs.Regions.{hole_points, hole_count}
use Rattle.offset_clear.specs.Rings.{ring_stays_clear}

-- the ring qs stays clear of the outer ring and of each hole
unfoldable pub hole_apart_step : Float → Region → List Float → ℕ → ℕ → Bool → Bool
hole_apart_step least r qs m k s = s && ring_stays_clear true least (hole_points r k) (hole_count r k) qs m

unfoldable pub ring_apart : Float → Region → List Float → ℕ → Bool
ring_apart least r qs m =
    rounds (hole_apart_step least r qs m) r.holes (ring_stays_clear false least r.outer.points r.outer.count qs m)

-- each ring of q does
unfoldable pub region_apart_step : Float → Region → Region → ℕ → Bool → Bool
region_apart_step least r q k s = s && ring_apart least r (hole_points q k) (hole_count q k)

unfoldable pub region_apart : Float → Region → Region → Bool
region_apart least r q = rounds (region_apart_step least r q) q.holes (ring_apart least r q.outer.points q.outer.count)

-- opens every definition above, for a proof that computes with all of them
unfoldable pub open_apart : Unit {0}
unfolding hole_apart_step ring_apart region_apart_step region_apart
open_apart = tt
