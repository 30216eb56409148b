-- polygon.rs, `check_simple`: the first two edges that cross or touch. Assumes nothing.
use Rattle.std.specs.Prelude.{ℕ, ◌+◌, ◌-◌, Bool, cond, ◌&&◌, List, eqb, Float, Option, None}
use Rattle.std.specs.Option.{option_or}
use Rattle.plane.specs.declared.PlanarPoint.{PlanarPoint}
use Rattle.ring_cross.specs.declared.EdgePair.{EdgePair}
use Rattle.ring_cross.specs.EdgePairs.{edges}
use Rattle.segment.specs.Segments.{segments_meet, folds_back}
use Rattle.ring.specs.Ring.{following, stored_at}
use Rattle.base.specs.Loop.{rounds}

unfoldable pub crossing_by : ℕ → ℕ → ℕ → PlanarPoint → PlanarPoint → PlanarPoint → PlanarPoint → Bool
crossing_by n i j a1 a2 b1 b2 =
    cond (eqb j (i + 1)) (folds_back a2 a1 b2)
    (cond (eqb i 0 && eqb j (n - 1)) (folds_back a1 a2 b1) (segments_meet a1 a2 b1 b2))

unfoldable pub crossing : List Float → ℕ → Bool → ℕ → ℕ → Bool
crossing ps n back i j =
    crossing_by n i j
    (stored_at ps n back i)
    (stored_at ps n back (following n i))
    (stored_at ps n back j)
    (stored_at ps n back (following n j))

-- a pair that was found stays
unfoldable pub pair_step : List Float → ℕ → Bool → ℕ → ℕ → Option EdgePair → Option EdgePair
pair_step ps n back i k s = option_or s (cond (crossing ps n back i (i + 1 + k)) (edges i (i + 1 + k)) None)

unfoldable pub edge_step : List Float → ℕ → Bool → ℕ → Option EdgePair → Option EdgePair
edge_step ps n back i s = option_or s (rounds (pair_step ps n back i) (n - (i + 1)) None)

unfoldable pub check_simple : List Float → ℕ → Bool → Option EdgePair
check_simple ps n back = rounds (edge_step ps n back) n None

-- opens every definition above, for a proof that computes with all of them
unfoldable pub open_simple : Unit {0}
unfolding crossing_by crossing pair_step edge_step check_simple
open_simple = tt
