-- polygon.rs, the vertices and edges of a ring. A ring is a list of numbers, two a vertex, and n says how many vertices it has. Assumes
-- nothing.
use Rattle.std.specs.Prelude.{ℕ, ◌+◌, ◌-◌, ◌*◌, Bool, cond, ◌&&◌, List, ltb, get_or, Float}
use Rattle.std.specs.Float.{nan}
use Rattle.plane.specs.declared.PlanarPoint.{PlanarPoint}

unfoldable pub vertex_at : List Float → ℕ → PlanarPoint
vertex_at ps k = record { east = get_or ps (2 * k) nan; north = get_or ps (2 * k + 1) nan }

-- the vertex after vertex k of n: the last, k + 1 = n, is followed by the first
unfoldable pub following : ℕ → ℕ → ℕ
following n k = cond (ltb (k + 1) n) (k + 1) 0

unfoldable pub edge_end : List Float → ℕ → ℕ → PlanarPoint
edge_end ps n k = vertex_at ps (following n k)

-- vertex k of the stored ring is this vertex of the given one
unfoldable pub source : ℕ → Bool → ℕ → ℕ
source n back k = cond (back && ltb 0 k) (n - k) k

unfoldable pub stored_at : List Float → ℕ → Bool → ℕ → PlanarPoint
stored_at ps n back k = vertex_at ps (source n back k)

-- opens every definition above, for a proof that computes with all of them
unfoldable pub open_ring : Unit {0}
unfolding vertex_at following edge_end source stored_at
open_ring = tt
