-- How far two rings are from each other. Assumes nothing.
use Rattle.std.specs.Prelude.{ℕ, List, Float}
use Rattle.math.specs.Number.{infinity, fmin}
use Rattle.ring.specs.Ring.{vertex_at}
use Rattle.base.specs.Loop.{rounds}
use Rattle.ring_near.specs.Near.{nearest}

-- the least gap of a second ring from a first, over the second's vertices
unfoldable pub clearance_step : List Float → ℕ → List Float → ℕ → Float → Float
clearance_step ps n qs k s = fmin s (nearest ps n (vertex_at qs k)).gap

unfoldable pub least_gap : List Float → ℕ → List Float → ℕ → Float
least_gap ps n qs m = rounds (clearance_step ps n qs) m infinity

-- R-1: the least gap over the vertices of each ring against the edges of the other
unfoldable pub least_between : List Float → ℕ → List Float → ℕ → Float
least_between ps n qs m = fmin (least_gap ps n qs m) (least_gap qs m ps n)

-- opens every definition above, for a proof that computes with all of them
unfoldable pub open_gap : Unit {0}
unfolding clearance_step least_gap least_between
open_gap = tt
