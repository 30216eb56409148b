-- R-9 of the boundary test: a point is told to be on the boundary of a ring if and only if it lies on one of its edges, in exact
-- numbers. Proved in `proofs/Exact.antt`. Assumes nothing.
use Rattle.std.specs.Prelude.{ℕ, ◌<◌, ◌≡◌, List, Float}
use Rattle.plane.specs.declared.Containment.TheVariants.{OnBoundary}
use Rattle.plane.specs.declared.PlanarPoint.{PlanarPoint}
use Rattle.turn.specs.Turns.{Finite}
use Rattle.segment.specs.Meeting.{On}
use Rattle.ring.specs.Ring.{vertex_at, edge_end}
use Rattle.ring_contain.specs.Contains.{ring_contains}

-- p lies on an edge, the closing one from vertex n − 1 to vertex 0 among them
pub record OnEdge (ps : List Float) (n : ℕ) (p : PlanarPoint) : Type 0 where
  pub edge : ℕ
  pub under : edge < n
  pub lies : On (vertex_at ps edge) (edge_end ps n edge) p

-- THE STATEMENT, of every ring and every point whose numbers are finite
pub record BoundaryExact : Type 0 where
  pub told_lies : (ps : List Float) (n : ℕ) (p : PlanarPoint) → ((k : ℕ) → k < n → Finite (vertex_at ps k)) → Finite p →
      ring_contains ps n p ≡ OnBoundary → OnEdge ps n p
  pub lies_told : (ps : List Float) (n : ℕ) (p : PlanarPoint) → ((k : ℕ) → k < n → Finite (vertex_at ps k)) → Finite p →
      OnEdge ps n p → ring_contains ps n p ≡ OnBoundary
