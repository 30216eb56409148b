-- The nearest point and its distance in one answer: where it is granted, where it is refused, and its parts. Assumes nothing.
use mathlib.Core.Path.{◌≡◌, refl}
use mathlib.Core.Bool.{Bool, true, false}
use lib.Ieee.{Float}
use Rattle.error.specs.declared.Refusal.{Refusal}
use Rattle.error.specs.declared.Refusal.TheVariants.{Granted}
use Rattle.error.specs.Refusals.{granted}
use Rattle.math.specs.Number.{zero_float}
use Rattle.plane.specs.declared.PlanarPoint.{PlanarPoint}
use Rattle.plane.specs.Points.{origin, check_point, distance_to}
use Rattle.outline_ask.specs.Queries.{measured, footed}
use Rattle.region.specs.declared.Region.{Region}
use Rattle.region.specs.Regions.{closest_boundary_point, distance_to_boundary}
use Rattle.region.specs.Queries.{ask_region, region_distance, region_closest}
use Rattle.region_ask.specs.Boundary.{neared_at, region_nearest, NearestParts, RegionNearest}

module _ (r : Region) (p : PlanarPoint) (s : Refusal) (e : s ≡ ask_region r (check_point p)) where
  pub near_yes : (q : PlanarPoint) (d : Float) → q ≡ closest_boundary_point r p → d ≡ distance_to p q → granted s ≡ true
      → record { refusal = Granted; distance = d; point = q } ≡ region_nearest r p
  unfolding region_nearest neared_at distance_to_boundary
  near_yes q d i j h = rw (← e, h, j, i) refl

  pub near_no : granted s ≡ false → record { refusal = s; distance = zero_float; point = origin } ≡ region_nearest r p
  unfolding region_nearest neared_at
  near_no h = rw (← e, h) refl

pub region_nearest_parts : RegionNearest
unfolding region_nearest neared_at region_distance region_closest measured footed
region_nearest_parts r p = go (ask_region r (check_point p)) (granted (ask_region r (check_point p))) refl refl
  where
    go : (u : Refusal) (b : Bool) → ask_region r (check_point p) ≡ u → granted (ask_region r (check_point p)) ≡ b → NearestParts r p
    go u true e h = record { refusal = rw h refl; distance = rw h refl; point = rw h refl }
    go u false e h = record { refusal = rw h refl; distance = rw h refl; point = rw h refl }
