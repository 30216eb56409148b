-- What holds of the answers about a region, whatever the shape and the distance, finite or not: demand 3 of what is handed back, the empty
-- shape beside a refusal, the counts before loading, what an accepted inset has passed, what passes 21, and lent output. Proved in
-- `proofs/DemandAnswered.antt`, `proofs/Accepted.antt`, `proofs/Loaded.antt`, `proofs/Lent.antt` and `proofs/Counted.antt`. Assumes
-- nothing.
use Rattle.std.specs.Prelude.{ℕ, suc, ◌+◌, ◌*◌, ◌≤◌, ◌<◌, ◌≡◌, true, false, List, get_or, length, replicate, Float, None}
use Rattle.std.specs.Float.{nan}
use Rattle.std.specs.Float.Ieee.{lt, le, eq}
use Rattle.plane.specs.declared.Containment.TheVariants.{Inside}
use Rattle.error.specs.declared.Refusal.{Refusal}
use Rattle.error.specs.declared.Refusal.TheVariants.{Granted, Shape}
use Rattle.outline.specs.declared.Outline.{Outline}
use Rattle.region.specs.declared.Region.{Region}
use Rattle.region.specs.declared.NewRegion.{NewRegion}
use Rattle.math.specs.Number
use Rattle.math.specs.Number.{zero_float, one, add, mul}
use Rattle.error.specs.Refusals.{granted}
use Rattle.segment.specs.Segments.{segments_meet}
use Rattle.ring.specs.Ring.{vertex_at, edge_end}
use Rattle.ring_cross.specs.Simple.{check_simple}
use Rattle.outline.specs.Outlines.{relative_tolerance}
use Rattle.offset.specs.Offsets.{check_distance}
use Rattle.offset.specs.Answers.{AnswerDemand, ShapeCounted, ShapeAccounts, EmptyOutline}
use Rattle.region.specs.Regions.{no_region, ring_points, ring_count, region_contains, distance_to_boundary, region_extent}
use Rattle.region.specs.Checks.{check_region, load_rings, region_loaded, proper_region, region, region_given, without_holes}
use Rattle.region.specs.Insets.{region_plain, region_inset}
use Rattle.region.specs.Queries.{before, needed, region_write, written_region, inset_write, written_inset}
use Rattle.region.specs.Demand.{edges_of, region_load}

-- ---- demand 3 of an inset: of all the edges, in one ring more than there are holes

abbrev pub InsetDemand : Type 0
InsetDemand =
    (r : Region) (d : Float) → proper_region r ≡ true →
    AnswerDemand (edges_of r r.holes) (suc r.holes) (region_inset r d).refusal (region_inset r d).collapses
    (region_inset r d).divides (region_inset r d).joins

-- the counts handed back are those of the front's whole list of events
abbrev pub InsetCounted : Type 0
InsetCounted =
    (r : Region) (distance : Float) →
    ShapeCounted (proper_region r) distance (region_load r distance) (region_inset r distance).collapses
    (region_inset r distance).divides (region_inset r distance).joins

-- the bounds and the counts of an inset to lent output, whether or not 20 refuses it
abbrev pub InsetWriteAccounts : Type 0
InsetWriteAccounts =
    (r : Region) (distance : Float) (out : List Float) →
    ShapeAccounts (proper_region r) (edges_of r r.holes) (suc r.holes) distance (region_load r distance)
    (inset_write r distance out).refusal (inset_write r distance out).collapses (inset_write r distance out).divides
    (inset_write r distance out).joins

-- ---- the shape beside a refusal is empty

pub record EmptyRegion (r : Region) : Type 0 where
  pub outer : EmptyOutline r.outer
  pub numbers : r.points ≡ replicate 512 zero_float
  pub counts : r.counts ≡ replicate 8 0
  pub holes : r.holes ≡ 0

pub record EmptyNewRegion (a : NewRegion) : Type 0 where
  pub empty : granted a.refusal ≡ false → EmptyRegion a.shape

-- of a region from numbers, of one from outlines, and of one without holes
pub record RegionEmpty : Type 0 where
  pub loaded : (lengths : List ℕ) (ps : List Float) → EmptyNewRegion (region lengths ps)
  pub given : (o : Outline) (hs : List Outline) → EmptyNewRegion (region_given o hs)
  pub alone : (o : Outline) → EmptyNewRegion (without_holes o)

-- of rings that are loaded: 4 to 9 and 27 alone, of any numbers and any lengths
abbrev pub LoadEmpty : Type 0
LoadEmpty =
    (lengths : List ℕ) (ps : List Float) → granted (load_rings lengths ps).refusal ≡ false →
    (load_rings lengths ps).shape ≡ no_region

abbrev pub InsetEmpty : Type 0
InsetEmpty = (r : Region) (d : Float) → granted (region_inset r d).refusal ≡ false → EmptyRegion (region_inset r d).shape

-- ---- before the front is loaded the counts are 0: `region_plain` has no events

pub record InsetBeforeLoading (r : Region) (d : Float) : Type 0 where
  -- 21
  pub improper : proper_region r ≡ false → region_inset r d ≡ region_plain Shape no_region
  -- 13 and 14
  pub refused : proper_region r ≡ true → granted (check_distance d) ≡ false →
      region_inset r d ≡ region_plain (check_distance d) no_region
  -- 0 and −0: the source itself
  pub unmoved : proper_region r ≡ true → eq d zero_float ≡ true → region_inset r d ≡ region_plain Granted r
  -- 15 and 16 while loading
  pub loading : proper_region r ≡ true → granted (check_distance d) ≡ true → eq d zero_float ≡ false →
      granted (region_load r d).refusal ≡ false → region_inset r d ≡ region_plain (region_load r d).refusal no_region

abbrev pub InsetBefore : Type 0
InsetBefore = (r : Region) (d : Float) → InsetBeforeLoading r d

-- ---- an inset q of r, accepted at a distance d above 0: its ring k is the outer one for 0, and hole k − 1 from 1 on

pub record RegionKeptClear (r : Region) (d : Float) (q : Region) : Type 0 where
  -- each ring has passed `check_simple`, and the rings 10 to 12
  pub simple : (k : ℕ) → k ≤ q.holes → check_simple (ring_points q k) (ring_count q k) false ≡ None
  pub region : check_region q ≡ Granted
  -- each vertex tests inside
  pub side : (k i : ℕ) → k ≤ q.holes → i < ring_count q k → region_contains r (vertex_at (ring_points q k) i) ≡ Inside
  -- its gap is at least distance − 1e-9 × (1 + distance + extent)
  pub gap : (k i : ℕ) → k ≤ q.holes → i < ring_count q k →
      le (Number.sub d (mul relative_tolerance (add (add one d) (region_extent r))))
      (distance_to_boundary r (vertex_at (ring_points q k) i)) ≡ true
  -- no edge of a ring k meets an edge of a ring l of the source
  pub apart : (k l i j : ℕ) → k ≤ q.holes → l ≤ r.holes → i < ring_count q k → j < ring_count r l →
      segments_meet (vertex_at (ring_points q k) i) (edge_end (ring_points q k) (ring_count q k) i) (vertex_at (ring_points r l) j)
      (edge_end (ring_points r l) (ring_count r l) j) ≡ false

abbrev pub InsetAccepted : Type 0
InsetAccepted =
    (r : Region) (d : Float) → granted (region_inset r d).refusal ≡ true → lt zero_float d ≡ true →
    RegionKeptClear r d (region_inset r d).shape

-- ---- what is accepted passes 21 again

abbrev pub InsetProper : Type 0
InsetProper = (r : Region) (d : Float) → granted (region_inset r d).refusal ≡ true →
    proper_region (region_inset r d).shape ≡ true

pub record ProperNewRegion (a : NewRegion) : Type 0 where
  pub proper : granted a.refusal ≡ true → proper_region a.shape ≡ true

-- a region from numbers; 4 to 12 and 27 alone, of any numbers and any lengths; a region from outlines, and one without holes
pub record RegionProper : Type 0 where
  pub loaded : (lengths : List ℕ) (ps : List Float) → ProperNewRegion (region lengths ps)
  pub rings : (lengths : List ℕ) (ps : List Float) → ProperNewRegion (region_loaded (load_rings lengths ps))
  pub given : (o : Outline) (hs : List Outline) → ProperNewRegion (region_given o hs)
  pub alone : (o : Outline) → ProperNewRegion (without_holes o)

-- ---- lent output: a refused write changes nothing, and a granted one only the numbers that it writes

-- the rings of r, one after the other, go over the first numbers of `out`, which is `now` afterwards
pub record RingsWrote (u : Refusal) (r : Region) (out now : List Float) : Type 0 where
  pub refused : granted u ≡ false → now ≡ out
  pub size : length now ≡ length out
  pub numbers : granted u ≡ true → (k i : ℕ) → k ≤ r.holes → i < 2 * ring_count r k →
      get_or now (2 * before r k + i) nan ≡ get_or (ring_points r k) i nan
  pub rest : (i : ℕ) → needed r ≤ i → get_or now i nan ≡ get_or out i nan

abbrev pub RegionLent : Type 0
RegionLent = (r : Region) (out : List Float) → RingsWrote (region_write r out).refusal r out (written_region r out)

abbrev pub InsetLent : Type 0
InsetLent = (r : Region) (d : Float) (out : List Float) →
    RingsWrote (inset_write r d out).refusal (region_inset r d).shape out (written_inset r d out)
