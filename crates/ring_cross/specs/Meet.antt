-- polygon.rs, `rings_meet`. Assumes nothing.
use Rattle.std.specs.Prelude.{ℕ, Bool, false, ◌||◌, List, Float}
use Rattle.plane.specs.declared.PlanarPoint.{PlanarPoint}
use Rattle.segment.specs.Segments.{segments_meet}
use Rattle.ring.specs.Ring.{vertex_at, edge_end}
use Rattle.base.specs.Loop.{rounds}

unfoldable pub meet_step : List Float → ℕ → PlanarPoint → PlanarPoint → ℕ → Bool → Bool
meet_step qs m a1 a2 j s = s || segments_meet a1 a2 (vertex_at qs j) (edge_end qs m j)

unfoldable pub meets_edge : List Float → ℕ → PlanarPoint → PlanarPoint → Bool
meets_edge qs m a1 a2 = rounds (meet_step qs m a1 a2) m false

unfoldable pub rings_meet_step : List Float → ℕ → List Float → ℕ → ℕ → Bool → Bool
rings_meet_step ps n qs m i s = s || meets_edge qs m (vertex_at ps i) (edge_end ps n i)

unfoldable pub rings_meet : List Float → ℕ → List Float → ℕ → Bool
rings_meet ps n qs m = rounds (rings_meet_step ps n qs m) n false

-- opens every definition above, for a proof that computes with all of them
unfoldable pub open_meet : Unit {0}
unfolding meet_step meets_edge rings_meet_step rings_meet
open_meet = tt
