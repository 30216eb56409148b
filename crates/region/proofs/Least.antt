-- No ring's nearest point is nearer than the region's boundary. Assumes nothing.
use Prim.Native.Nat.{ℕ, zero, suc}
use native.Mathlib.Omega.{arith}
use mathlib.Core.Path.{refl}
use Rattle.plane.specs.declared.PlanarPoint.{PlanarPoint}
use Rattle.plane.specs.Points.{distance_to}
use Rattle.ring_near.specs.Near.{nearest}
use Rattle.ring_near.proofs.Least.{start_not_below, none_below}
use Rattle.region.specs.declared.Region.{Region}
use Rattle.region.specs.Regions.{ring_points, ring_count, hole_points, hole_count, closer, closest_step, closest_boundary_point, distance_to_boundary}
use Rattle.region.specs.Least.{BoundaryLeast}

-- what hole k offers
abbrev offered : Region → PlanarPoint → ℕ → PlanarPoint
offered r p k = (nearest (hole_points r k) (hole_count r k) p).foot

pub boundary_least : BoundaryLeast
unfolding ring_points ring_count distance_to_boundary closest_boundary_point closest_step closer
boundary_least r p zero l = start_not_below (distance_to p) (offered r p) (closest_step r p) (λ j a. refl) (nearest r.outer.points r.outer.count p).foot r.holes
boundary_least r p (suc k) l =
    none_below (distance_to p) (offered r p) (closest_step r p) (λ j a. refl) (nearest r.outer.points r.outer.count p).foot r.holes k (omega arith)
