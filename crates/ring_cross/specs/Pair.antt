-- R-3: the crossing test of two rings, with its pair. Edge k runs from vertex k to the next, the last one closing the ring; of the rings
-- as they are handed in. Assumes nothing.
use Rattle.std.specs.Prelude.{ℕ, Bool, cond, List, ltb, Float, Option, None}
use Rattle.std.specs.Option.{option_or}
use Rattle.plane.specs.declared.PlanarPoint.{PlanarPoint}
use Rattle.segment.specs.Segments.{segments_meet}
use Rattle.ring.specs.Ring.{vertex_at, edge_end}
use Rattle.base.specs.Loop.{rounds}
use Rattle.ring_cross.specs.declared.EdgePair.{EdgePair}
use Rattle.ring_cross.specs.EdgePairs.{edges}

-- "then the lowest edge of the inner walk that it meets": of edge i of the outer walk, from a1 to a2; a pair that was found stays
unfoldable pub edge_step : List Float → ℕ → ℕ → PlanarPoint → PlanarPoint → ℕ → Option EdgePair → Option EdgePair
edge_step qs m i a1 a2 k s = option_or s (cond (segments_meet a1 a2 (vertex_at qs k) (edge_end qs m k)) (edges i k) None)

unfoldable pub edge_pair : List Float → ℕ → ℕ → PlanarPoint → PlanarPoint → Option EdgePair
edge_pair qs m i a1 a2 = rounds (edge_step qs m i a1 a2) m None

-- "the lowest edge of the outer walk that meets any"
unfoldable pub walk_step : List Float → ℕ → List Float → ℕ → ℕ → Option EdgePair → Option EdgePair
walk_step ps n qs m i s = option_or s (edge_pair qs m i (vertex_at ps i) (edge_end ps n i))

unfoldable pub walk : List Float → ℕ → List Float → ℕ → Option EdgePair
walk ps n qs m = rounds (walk_step ps n qs m) n None

-- "the ring of fewer vertices in the outer walk, the other in the inner; of equal ones the first named is outer"
unfoldable pub second_outer : ℕ → ℕ → Bool
second_outer n m = ltb m n

unfoldable pub ring_pair : List Float → ℕ → List Float → ℕ → Option EdgePair
ring_pair ps n qs m = cond (second_outer n m) (walk qs m ps n) (walk ps n qs m)

-- opens every definition above, for a proof that computes with all of them
unfoldable pub open_pair : Unit {0}
unfolding edge_step edge_pair walk_step walk second_outer ring_pair
open_pair = tt
