-- R-10 of lent output: where an inset is written, at a distance above 0, the vertices that then stand in the lent memory keep the margin
-- from each edge of the source. They are counted as the write answers. Proved in `proofs/Lent.antt`. Assumes nothing.
use Rattle.std.specs.Prelude.{ℕ, ◌*◌, ◌<◌, ◌≤◌, ◌≡◌, true, false, List, T, get_or, drop, Float}
use Rattle.std.specs.Float.{binary64}
use Rattle.std.specs.Float.Ieee.{fits, lt}
use Rattle.math.specs.Number.{zero_float}
use Rattle.error.specs.Refusals.{granted}
use Rattle.base.specs.Loop.{rounds}
use Rattle.margins.specs.Far.{over}
use Rattle.outline.specs.declared.Outline.{Outline}
use Rattle.offset.specs.Lent.{offset_write, written_offset}
use Rattle.region.specs.declared.Region.{Region}
use Rattle.region.specs.Regions.{ring_points, ring_count, region_extent}
use Rattle.region.specs.Checks.{total_step}
use Rattle.region.specs.Queries.{inset_write, written_inset}
use Rattle.margin.specs.Margin.{Doubles, RingFar, largest_of, RegionDoubles}

-- Rings that stand one after the other in ps, with so many vertices each: ring k begins after the vertices of those before it.
unfoldable pub ring_in : List ℕ → List Float → ℕ → List Float
ring_in counts ps k = drop (2 * rounds (total_step counts) k 0) ps

-- an outline's inset, of `count` vertices
abbrev pub OffsetWriteMargin : Type 0
OffsetWriteMargin =
    (o : Outline) (d : Float) (out : List Float) → Doubles o.points → T (fits binary64 d) →
    granted (offset_write o false d out).refusal ≡ true → lt zero_float d ≡ true →
    RingFar (over d) (largest_of o) (written_offset o false d out) (offset_write o false d out).count o.points o.count

-- each of the first `rings` rings that stand in qs keeps the margin from each edge of each ring of r
abbrev pub WrittenFar : ℕ → ℕ → ℕ → List ℕ → List Float → Region → Type 0
WrittenFar D M rings counts qs r =
    (k l : ℕ) → k < rings → l ≤ r.holes → RingFar D M (ring_in counts qs k) (get_or counts k 0) (ring_points r l) (ring_count r l)

-- a region's inset, of `rings` rings with `counts` vertices
abbrev pub InsetWriteMargin : Type 0
InsetWriteMargin =
    (r : Region) (d : Float) (out : List Float) → RegionDoubles r → T (fits binary64 d) →
    granted (inset_write r d out).refusal ≡ true → lt zero_float d ≡ true →
    WrittenFar (over d) (over (region_extent r)) (inset_write r d out).rings (inset_write r d out).counts (written_inset r d out) r
