-- R-10 of what was drawn. Numbers that are accepted are stored without a closing repeat, and reversed where they run the wrong way. The
-- margin is stated here of the numbers as they were handed in: from every edge that was drawn, those at a closing repeat too, and with the
-- largest absolute coordinate among them. Outlines handed in as a region are at the end.
-- Proved in `proofs/Drawn.antt`, `proofs/DrawnRings.antt` and `proofs/Given.antt`. Assumes nothing.
use Rattle.std.specs.Prelude.{ℕ, zero, suc, ◌+◌, ◌*◌, ◌/◌, ◌≤◌, ◌<◌, ◌≡◌, true, false, List, T, get_or, length, Float}
use Rattle.std.specs.Float.{nan, binary64}
use Rattle.std.specs.Float.Ieee.{fits, lt}
use Rattle.math.specs.Number.{zero_float}
use Rattle.error.specs.Refusals.{granted}
use Rattle.margins.specs.Far.{over, magnitude}
use Rattle.outline.specs.declared.Outline.{Outline}
use Rattle.outline.specs.Outlines.{new_outline, outline}
use Rattle.offset.specs.Offsets.{offset}
use Rattle.region.specs.declared.Region.{Region}
use Rattle.region.specs.Regions.{ring_points, ring_count}
use Rattle.region.specs.Checks.{total, region, given_hole, region_given}
use Rattle.region.specs.Insets.{region_inset}
use Rattle.margin.specs.Margin.{Doubles, RingFar, Largest}
use Rattle.margin.specs.Lent.{ring_in}

-- ---- one ring

-- n vertices ps were drawn, and m vertices qs of their inset by d are handed back. `most` units are the largest absolute coordinate of ps.
pub record DrawnMargin (d : Float) (ps : List Float) (n : ℕ) (qs : List Float) (m : ℕ) : Type 0 where
  pub most : ℕ
  pub largest : Largest ps n most
  pub far : RingFar (over d) most qs m ps n

-- n vertices that pass 4 to 9 and 27
abbrev pub NewOutlineMargin : Type 0
NewOutlineMargin =
    (ps : List Float) (n : ℕ) (d : Float) → Doubles ps → T (fits binary64 d) →
    granted (new_outline ps n).refusal ≡ true → granted (offset (new_outline ps n).shape false d).refusal ≡ true →
    lt zero_float d ≡ true →
    DrawnMargin d ps n (offset (new_outline ps n).shape false d).shape.points
    (offset (new_outline ps n).shape false d).shape.count

-- numbers that pass 1, 2, 4 to 9 and 27
abbrev pub OutlineMargin : Type 0
OutlineMargin =
    (ps : List Float) (d : Float) → Doubles ps → T (fits binary64 d) →
    granted (outline ps).refusal ≡ true → granted (offset (outline ps).shape false d).refusal ≡ true →
    lt zero_float d ≡ true →
    DrawnMargin d ps (length ps / 2) (offset (outline ps).shape false d).shape.points
    (offset (outline ps).shape false d).shape.count

-- ---- more rings, one after the other in ps; ring l has `get_or lengths l` vertices

-- `rings` rings are handed back; ring k is the numbers `ring k`, with `count k` vertices. Each keeps the margin from each ring drawn.
pub record DrawnRings (d : Float) (lengths : List ℕ) (ps : List Float) (rings : ℕ) (ring : ℕ → List Float) (count : ℕ → ℕ)
    : Type 0 where
  pub most : ℕ
  pub largest : Largest ps (total lengths) most
  pub far : (k l : ℕ) → k < rings → l < length lengths →
      RingFar (over d) most (ring k) (count k) (ring_in lengths ps l) (get_or lengths l 0)

-- numbers that pass 1 to 12 and 27
abbrev pub RegionMargin : Type 0
RegionMargin =
    (lengths : List ℕ) (ps : List Float) (d : Float) → Doubles ps → T (fits binary64 d) →
    granted (region lengths ps).refusal ≡ true → granted (region_inset (region lengths ps).shape d).refusal ≡ true →
    lt zero_float d ≡ true →
    DrawnRings d lengths ps ((region_inset (region lengths ps).shape d).shape.holes + 1)
    (ring_points (region_inset (region lengths ps).shape d).shape) (ring_count (region_inset (region lengths ps).shape d).shape)

-- ---- outlines that are handed in as a region: ring 0 is the outer one, ring l + 1 is hole l. They are stored as they are.

unfoldable pub given_ring : Outline → List Outline → ℕ → Outline
given_ring o hs zero = o
given_ring o hs (suc l) = given_hole hs l

-- M units are their largest absolute coordinate: none has more, and that of outline `ring` at `place` has as many
pub record LargestGiven (o : Outline) (hs : List Outline) (M : ℕ) : Type 0 where
  pub each : (l k : ℕ) → l ≤ length hs → k < 2 * (given_ring o hs l).count →
      magnitude (get_or (given_ring o hs l).points k nan) ≤ M
  pub ring : ℕ
  pub place : ℕ
  pub held : ring ≤ length hs
  pub within : place < 2 * (given_ring o hs ring).count
  pub reached : magnitude (get_or (given_ring o hs ring).points place nan) ≡ M

-- each vertex of each ring of q keeps the margin from each edge of each outline
pub record GivenMargin (d : Float) (q : Region) (o : Outline) (hs : List Outline) : Type 0 where
  pub most : ℕ
  pub largest : LargestGiven o hs most
  pub far : (k l : ℕ) → k ≤ q.holes → l ≤ length hs →
      RingFar (over d) most (ring_points q k) (ring_count q k) (given_ring o hs l).points (given_ring o hs l).count

-- outlines that pass 21 and 10 to 12
abbrev pub RegionGivenMargin : Type 0
RegionGivenMargin =
    (o : Outline) (hs : List Outline) (d : Float) → ((l : ℕ) → Doubles (given_ring o hs l).points) → T (fits binary64 d) →
    granted (region_given o hs).refusal ≡ true → granted (region_inset (region_given o hs).shape d).refusal ≡ true →
    lt zero_float d ≡ true →
    GivenMargin d (region_inset (region_given o hs).shape d).shape o hs
