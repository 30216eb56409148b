-- How the code walks: edges by blocks of 8, and a block is left out whose box is not nearer to a point than the least gap so far. Assumes
-- nothing.
use Rattle.std.specs.Prelude.{ℕ, ◌≤◌, ◌<◌, ◌⊎◌, ◌≡◌, Bool, true, false, cond, ◌||◌, List, Float}
use Rattle.std.specs.Float.Ieee.{lt, le, neg, is_nan}
use Rattle.math.specs.Number.{one}
use Rattle.plane.specs.declared.PlanarPoint.{PlanarPoint}
use Rattle.plane.specs.Plane.{sub}
use Rattle.plane.specs.Points.{origin}
use Rattle.segment.specs.Segments.{along, closest_on_segment}
use Rattle.segment.specs.Boxes.{low, high, Within}
use Rattle.ring.specs.Ring.{vertex_at, edge_end}
use Rattle.ring_near.specs.Near.{gap_to}
use Rattle.plane.specs.declared.Bounds.{Bounds}

-- ---- gaps

-- the gap of q from the edge ab, and from edge k of a ring
unfoldable pub gap_between : PlanarPoint → PlanarPoint → PlanarPoint → Float
gap_between q a b = (gap_to q (closest_on_segment q a b)).gap

unfoldable pub edge_gap : List Float → ℕ → ℕ → PlanarPoint → Float
edge_gap ps n k q = gap_between q (vertex_at ps k) (edge_end ps n k)

-- x is the gap of q from one of the edges from `from` to `to`
pub record FromEdges (ps : List Float) (n from to : ℕ) (q : PlanarPoint) (x : Float) : Type 0 where
  pub edge : ℕ
  pub after : from ≤ edge
  pub before : edge < to
  pub is : x ≡ edge_gap ps n edge q

-- the same of one of the first m vertices of a second ring
pub record FromVertices (ps : List Float) (n from to : ℕ) (qs : List Float) (m : ℕ) (x : Float) : Type 0 where
  pub vertex : ℕ
  pub within : vertex < m
  pub gap : FromEdges ps n from to (vertex_at qs vertex) x

-- r is the least of s and of all that P holds of; a NaN is passed over
pub record Least (P : Float → Type 0) (s r : Float) : Type 0 where
  pub start : (x : Float) → lt x s ≡ false → lt x r ≡ false
  pub each : (x : Float) → P x → lt x r ≡ false
  pub one : (r ≡ s) ⊎ (P r × (is_nan r ≡ false))

-- the lesser of a least gap so far and a gap
unfoldable pub taken : Float → Float → Float
taken least gap = cond (lt gap least) gap least

-- ---- boxes

-- the box, made larger by a, a - 0 and a + 1 (b - a): between the last two lies every point a + t (b - a), as rounded
unfoldable pub widened : Bounds → PlanarPoint → PlanarPoint → Bounds
widened s a b = record {
  low = low (along a (sub b a) one) (low (sub a origin) (low a s.low));
  high = high (along a (sub b a) one) (high (sub a origin) (high a s.high));
}

-- the box holds each point of the edges from `from` to `to` that can be the nearest to some point
abbrev pub Spans : List Float → ℕ → ℕ → ℕ → Bounds → Type 0
Spans ps n from to s =
    (k : ℕ) → from ≤ k → k < to → (q : PlanarPoint) →
    Within s.low s.high (closest_on_segment q (vertex_at ps k) (edge_end ps n k))

-- the box lies at least `least` east, west, north or south of q, as rounded
unfoldable pub beyond : Bounds → PlanarPoint → Float → Bool
beyond s q least =
    le least (sub s.low q).east || (le (sub s.high q).east (neg least) ||
    (le least (sub s.low q).north || le (sub s.high q).north (neg least)))

-- THE STATEMENT: no edge whose nearest points are in a box beyond `least` has a gap below it, NaN and infinite numbers too
abbrev pub BeyondNotNearer : Type 0
BeyondNotNearer =
    (s : Bounds) (q a b : PlanarPoint) (least : Float) → Within s.low s.high (closest_on_segment q a b) →
    beyond s q least ≡ true → lt (gap_between q a b) least ≡ false

-- the edges from `from` to `to` are some of the ring's
pub record Run (n from to : ℕ) : Type 0 where
  pub some : from < to
  pub within : to ≤ n

-- opens every definition above, for a proof that computes with all of them
unfoldable pub open_blocks : Unit {0}
unfolding gap_between edge_gap taken widened beyond
open_blocks = tt
