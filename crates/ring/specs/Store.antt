-- A ring stored from place `base` of a longer list. Assumes nothing.
use Rattle.std.specs.Prelude.{ℕ, ◌+◌, ◌*◌, Bool, List, set, Float}
use Rattle.plane.specs.declared.PlanarPoint.{PlanarPoint}
use Rattle.ring.specs.Ring.{stored_at}
use Rattle.base.specs.Loop.{rounds}

unfoldable pub store_vertex : List Float → ℕ → PlanarPoint → List Float
store_vertex out k v = set (set out (2 * k) v.east) (2 * k + 1) v.north

unfoldable pub store_step : List Float → ℕ → Bool → ℕ → ℕ → List Float → List Float
store_step ps n back base k out = store_vertex out (base + k) (stored_at ps n back k)

unfoldable pub stored : List Float → ℕ → Bool → ℕ → List Float → List Float
stored ps n back base out = rounds (store_step ps n back base) n out

-- opens every definition above, for a proof that computes with all of them
unfoldable pub open_store : Unit {0}
unfolding store_vertex store_step stored
open_store = tt
