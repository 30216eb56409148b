-- The nearest point of a region's boundary, that of the holes too, and how far it is: both in one answer. Assumes nothing.
use Rattle.std.specs.Prelude.{cond, ◌≡◌, Float}
use Rattle.error.specs.declared.Refusal.{Refusal}
use Rattle.error.specs.declared.Refusal.TheVariants.{Granted}
use Rattle.error.specs.Refusals.{granted}
use Rattle.math.specs.Number.{zero_float}
use Rattle.plane.specs.declared.PlanarPoint.{PlanarPoint}
use Rattle.plane.specs.Points.{check_point, origin}
use Rattle.outline_ask.specs.declared.Neared.{Neared}
use Rattle.region.specs.declared.Region.{Region}
use Rattle.region.specs.Regions.{closest_boundary_point, distance_to_boundary}
use Rattle.region.specs.Queries.{ask_region, region_distance, region_closest}

-- `neared` of an outline is handed its walk's gap and makes it a distance; a region's distance is that to the point found, and is one
unfoldable pub neared_at : Refusal → Float → PlanarPoint → Neared
neared_at u d q =
    cond (granted u) (record { refusal = Granted; distance = d; point = q }) (record { refusal = u; distance = zero_float; point = origin })

-- 21, then 2 of the point
unfoldable pub region_nearest : Region → PlanarPoint → Neared
region_nearest r p = neared_at (ask_region r (check_point p)) (distance_to_boundary r p) (closest_boundary_point r p)

-- its parts are what the two questions answer one by one
pub record NearestParts (r : Region) (p : PlanarPoint) : Type 0 where
  pub refusal : (region_nearest r p).refusal ≡ (region_distance r p).refusal
  pub distance : (region_nearest r p).distance ≡ (region_distance r p).value
  pub point : (region_nearest r p).point ≡ (region_closest r p).point

-- Proved in `proofs/Both.antt`.
abbrev pub RegionNearest : Type 0
RegionNearest = (r : Region) (p : PlanarPoint) → NearestParts r p

-- opens every definition above, for a proof that computes with all of them
unfoldable pub open_boundary : Unit {0}
unfolding neared_at region_nearest
open_boundary = tt
