-- Demand 3 for an outline: nothing is assumed of the floats.
use mathlib.Core.Path.{refl}
use Rattle.ring.specs.Ring.{vertex_at}
use Rattle.front.specs.Loading.{outer}
use Rattle.front.proofs.Demand.Whole.{front_demand}
use Rattle.offset.specs.Offsets.{outline_load, sweep}
use Rattle.offset.specs.Demand.{OutlineSweep, OutlineDemand}

pub outline_sweep : OutlineSweep
unfolding sweep
outline_sweep o outward d = refl

pub outline_demand : OutlineDemand
outline_demand o outward d q near =
    front_demand d (vertex_at o.points 0) o.count 1 (outline_load o outward d) near (outer o.points o.count outward q)
