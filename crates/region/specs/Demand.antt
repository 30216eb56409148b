-- Demand 3 for a region that passes question 21, by a finite distance: of all its edges, in one ring more than there are holes. The front
-- is that of `region_sweep`. Proved in `proofs/Demand.antt`. Assumes nothing.
use Rattle.std.specs.Prelude.{ℕ, zero, suc, ◌+◌, ◌≡◌, true, Float}
use Rattle.front.specs.declared.Loaded.{Loaded}
use Rattle.region.specs.declared.Region.{Region}
use Rattle.math.specs.Number.{finite}
use Rattle.ring.specs.Ring.{vertex_at}
use Rattle.front.specs.Sweeps.{offset_rings}
use Rattle.front.specs.Demand.{givens, Demand}
use Rattle.region.specs.Regions.{hole_count}
use Rattle.region.specs.Checks.{proper_region}
use Rattle.region.specs.Insets.{load_region, region_sweep}

-- the edges of the outer ring and of the first k holes
unfoldable pub edges_of : Region → ℕ → ℕ
edges_of r zero = r.outer.count
edges_of r (suc k) = edges_of r k + hole_count r k

-- the region's rings, as its inset loads them
abbrev pub region_load : Region → Float → Loaded
region_load r distance = load_region r (vertex_at r.outer.points 0) distance

-- `offset_rings`, of which `Demand` speaks, is the sweep of the region's inset
abbrev pub RegionSweep : Type 0
RegionSweep = (r : Region) (distance : Float) → offset_rings distance (region_load r distance) ≡ region_sweep r distance

abbrev pub RegionDemand : Type 0
RegionDemand =
    (r : Region) (distance : Float) → proper_region r ≡ true → finite distance ≡ true →
    Demand (edges_of r r.holes) (suc r.holes) (givens distance (region_load r distance)) (region_load r distance)
