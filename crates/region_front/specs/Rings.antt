-- The front of a region handed in. A ring that no front can take is refused; a region that passes 21 has none. Assumes nothing.
use Rattle.std.specs.Prelude.{ℕ, ◌*◌, true, false, List, get_or, drop, Float}
use Rattle.base.specs.Loop.{rounds}
use Rattle.plane.specs.declared.PlanarPoint.{PlanarPoint}
use Rattle.ring.specs.Ring.{vertex_at}
use Rattle.front.specs.declared.Loaded.{Loaded}
use Rattle.front.specs.declared.Sweep.{Sweep}
use Rattle.front.specs.Loading.{load_ring, loaded_nothing}
use Rattle.front.specs.Sweeps.{offset_rings}
use Rattle.front_load.specs.Next.{load_next}

unfoldable pub load_next_step : List Float → List ℕ → PlanarPoint → Float → ℕ → Loaded → Loaded
load_next_step hs cs origin d k s = load_next (drop (64 * k) hs) (get_or cs k 0) true origin d s

unfoldable pub load_rings : List Float → ℕ → List Float → List ℕ → ℕ → PlanarPoint → Float → Loaded
load_rings ps n hs cs h origin d = rounds (load_next_step hs cs origin d) h (load_ring ps n false origin d loaded_nothing)

unfoldable pub sweep_rings : List Float → ℕ → List Float → List ℕ → ℕ → Float → Sweep
sweep_rings ps n hs cs h d = offset_rings d (load_rings ps n hs cs h (vertex_at ps 0) d)

-- opens every definition above, for a proof that computes with all of them
unfoldable pub open_rings : Unit {0}
unfolding load_next_step load_rings sweep_rings
open_rings = tt
