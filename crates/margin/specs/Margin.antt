-- R-10, the margin in true distance. Of an outline or a region that passes 21, as every accepted one does, an inset is accepted, at a
-- distance above 0. Then the exact distance from each vertex of the inset to each edge of the source is at least
--     distance - 2 × 1e-9 × (1 + distance + extent) - 1e-15 × the largest absolute source coordinate.
-- The edges are all edges: the one that closes a ring, and those of the holes. `Far` says it of a vertex and an edge, over whole numbers;
-- margins/specs/Far.antt says what units, n and squares are there. Its D is the distance in units, and its M the extent in units, which is
-- the largest absolute coordinate: `ExtentLargest`, `RegionExtentLargest`. Nothing is said at distance 0, nor of outsets.
-- Proved in `proofs/Outlines.antt`, `proofs/Regions.antt`, `proofs/Extents.antt`, `proofs/RegionExtents.antt` and
-- `proofs/DoublesKept.antt`. Assumes nothing.
use Rattle.std.specs.Prelude.{ℕ, ◌*◌, ◌≤◌, ◌<◌, ◌≡◌, Bool, true, false, List, T, get_or, Float}
use Rattle.std.specs.Float.{nan, binary64}
use Rattle.std.specs.Float.Ieee.{fits, lt}
use Rattle.math.specs.Number.{zero_float}
use Rattle.error.specs.Refusals.{granted}
use Rattle.margins.specs.Far.{over, magnitude, Far}
use Rattle.ring.specs.Ring.{vertex_at, edge_end}
use Rattle.ring_measure.specs.Measures.{extent}
use Rattle.outline.specs.declared.Outline.{Outline}
use Rattle.outline.specs.Outlines.{proper}
use Rattle.offset.specs.Offsets.{offset}
use Rattle.region.specs.declared.Region.{Region}
use Rattle.region.specs.Regions.{ring_points, ring_count, region_extent}
use Rattle.region.specs.Checks.{proper_region}
use Rattle.region.specs.Insets.{region_inset}

-- the numbers of ps are doubles, as all numbers of the code are
abbrev pub Doubles : List Float → Type 0
Doubles ps = (k : ℕ) → T (fits binary64 (get_or ps k nan))

-- each of the m vertices of qs keeps the margin from each of the n edges of ps, of which the last closes the ring
abbrev pub RingFar : ℕ → ℕ → List Float → ℕ → List Float → ℕ → Type 0
RingFar D M qs m ps n = (k i : ℕ) → k < m → i < n → Far D M (vertex_at qs k) (vertex_at ps i) (edge_end ps n i)

-- ---- an outline

-- the extent in units
abbrev pub largest_of : Outline → ℕ
largest_of o = over (extent o.points o.count)

-- `offset o false d` is the inset
abbrev pub OffsetMargin : Type 0
OffsetMargin =
    (o : Outline) (d : Float) → Doubles o.points → T (fits binary64 d) →
    granted (offset o false d).refusal ≡ true → lt zero_float d ≡ true →
    RingFar (over d) (largest_of o) (offset o false d).shape.points (offset o false d).shape.count o.points o.count

-- M units are the largest absolute coordinate of the n vertices of ps: none has more, and the one at `place` has as many
pub record Largest (ps : List Float) (n M : ℕ) : Type 0 where
  pub each : (k : ℕ) → k < 2 * n → magnitude (get_or ps k nan) ≤ M
  pub place : ℕ
  pub within : place < 2 * n
  pub reached : magnitude (get_or ps place nan) ≡ M

abbrev pub ExtentLargest : Type 0
ExtentLargest =
    (o : Outline) → Doubles o.points → proper 128 o.points o.count ≡ true → Largest o.points o.count (largest_of o)

-- An answer's numbers are doubles, too. They are finite, since what is accepted passes 21 again (`OffsetProper`, and `InsetProper` of a
-- region), as those of the source are by 21; and of a finite double `over` and `under` are the exact value.
abbrev pub OffsetDoubles : Type 0
OffsetDoubles = (o : Outline) (outward : Bool) (d : Float) → Doubles o.points → Doubles (offset o outward d).shape.points

-- ---- a region: ring 0 is the outer one, ring l + 1 is hole l

pub record RegionDoubles (r : Region) : Type 0 where
  pub outer : Doubles r.outer.points
  pub holes : Doubles r.points

-- each vertex of each ring of q keeps the margin from each edge of each ring of r
abbrev pub RegionFar : ℕ → ℕ → Region → Region → Type 0
RegionFar D M q r =
    (k l : ℕ) → k ≤ q.holes → l ≤ r.holes → RingFar D M (ring_points q k) (ring_count q k) (ring_points r l) (ring_count r l)

abbrev pub InsetMargin : Type 0
InsetMargin =
    (r : Region) (d : Float) → RegionDoubles r → T (fits binary64 d) →
    granted (region_inset r d).refusal ≡ true → lt zero_float d ≡ true →
    RegionFar (over d) (over (region_extent r)) (region_inset r d).shape r

-- the same of all its rings: none has a coordinate of more units, and that of ring `ring` at `place` has as many
pub record LargestOfRings (r : Region) (M : ℕ) : Type 0 where
  pub each : (l k : ℕ) → l ≤ r.holes → k < 2 * ring_count r l → magnitude (get_or (ring_points r l) k nan) ≤ M
  pub ring : ℕ
  pub place : ℕ
  pub held : ring ≤ r.holes
  pub within : place < 2 * ring_count r ring
  pub reached : magnitude (get_or (ring_points r ring) place nan) ≡ M

abbrev pub RegionExtentLargest : Type 0
RegionExtentLargest = (r : Region) → RegionDoubles r → proper_region r ≡ true → LargestOfRings r (over (region_extent r))

abbrev pub InsetDoubles : Type 0
InsetDoubles = (r : Region) (d : Float) → RegionDoubles r → RegionDoubles (region_inset r d).shape
