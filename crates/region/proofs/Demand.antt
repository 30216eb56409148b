-- Demand 3 for a region: nothing is assumed of the floats.
use mathlib.Core.Path.{◌≡◌, refl}
use mathlib.Core.Logic.{◌≢◌}
use mathlib.Core.Bool.{true, false, ◌&&◌}
use mathlib.Mathlib.Data.Bool.Basic.{and_elim_left, and_elim_right}
use Prim.Native.Nat.{ℕ, zero, suc, ◌*◌, ◌≤◌, ◌<◌}
use native.Mathlib.Omega.{arith}
use lib.Dec.{leb}
use lib.Ieee.{Float}
use Rattle.plane.specs.declared.PlanarPoint.{PlanarPoint}
use Rattle.region.specs.declared.Region.{Region}
use Rattle.error.specs.Refusals.{number}
use Rattle.ring.specs.Ring.{vertex_at}
use Rattle.base.specs.Loop.{rounds}
use Rattle.base.proofs.Tests.{all_pass}
use Rattle.outline.specs.Outlines.{proper}
use Rattle.front.specs.Loading.{load_ring, loaded_nothing, Loads, outer, hole}
use Rattle.region.specs.Regions.{hole_points, hole_count}
use Rattle.region.specs.Checks.{proper_step, proper_region}
use Rattle.region.specs.Insets.{load_hole_step, load_region, region_sweep}
use Rattle.region.specs.Demand.{edges_of, RegionSweep, RegionDemand}
use Rattle.front.proofs.Demand.Whole.{front_demand, loads_enough, loads_other}

hole_proper : (r : Region) (n : ℕ) → rounds (proper_step r) n true ≡ true → (k : ℕ) → k < n → proper 32 (hole_points r k) (hole_count r k) ≡ true
unfolding proper_step
hole_proper r n q k l = all_pass (proper_step r) (λ i. proper 32 (hole_points r i) (hole_count r i)) (λ i s. refl) n q k l

module _ (r : Region) (d : Float) (q : proper_region r ≡ true) where
  outer_proper : proper 128 r.outer.points r.outer.count ≡ true
  unfolding proper_region
  outer_proper = and_elim_left (proper 128 r.outer.points r.outer.count) (leb r.holes 8 && rounds (proper_step r) r.holes true) q

  holes_proper : (k : ℕ) → k < r.holes → proper 32 (hole_points r k) (hole_count r k) ≡ true
  unfolding proper_region
  holes_proper = hole_proper r r.holes
      (and_elim_right (leb r.holes 8) (rounds (proper_step r) r.holes true)
      (and_elim_right (proper 128 r.outer.points r.outer.count) (leb r.holes 8 && rounds (proper_step r) r.holes true) q))

  abbrev origin : PlanarPoint
  origin = vertex_at r.outer.points 0

  -- the outer ring and the first n holes, as they are loaded
  holes_load : (n : ℕ) → n ≤ r.holes
      → Loads d origin (edges_of r n) (suc n) (rounds (load_hole_step r origin d) n (load_ring r.outer.points r.outer.count false origin d loaded_nothing))
  unfolding rounds load_hole_step edges_of
  holes_load zero h = outer r.outer.points r.outer.count false outer_proper
  holes_load (suc n) h = hole (hole_points r n) (hole_count r n) (holes_proper n h) (holes_load n (omega arith))

  region_loads : Loads d origin (edges_of r r.holes) (suc r.holes) (load_region r origin d)
  unfolding load_region
  region_loads = holes_load r.holes (omega arith)

  pub enough : 2 * suc r.holes ≤ edges_of r r.holes
  enough = loads_enough d origin (edges_of r r.holes) (suc r.holes) (load_region r origin d) region_loads

  pub region_load_other : number (load_region r origin d).refusal ≢ 18
  region_load_other = loads_other d origin (edges_of r r.holes) (suc r.holes) (load_region r origin d) region_loads

pub region_sweeps : RegionSweep
unfolding region_sweep
region_sweeps r d = refl

pub region_demand : RegionDemand
region_demand r d q near =
    front_demand d (origin r d q) (edges_of r r.holes) (suc r.holes) (load_region r (origin r d q) d) near (region_loads r d q)
