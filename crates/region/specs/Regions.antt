-- holes.rs: an outer ring with holes. Hole k of a region is the list of its numbers from place 64 * k on, with its count. Assumes nothing.
use Rattle.std.specs.Prelude.{ℕ, zero, suc, ◌+◌, ◌*◌, Bool, cond, List, [], ◌∷◌, ◌++◌, ltb, get_or, set, replicate, drop, Float}
use Rattle.std.specs.Float.Ieee.{lt}
use Rattle.region.specs.declared.Region.{Region}
use Rattle.outline.specs.declared.Outline.{Outline}
use Rattle.plane.specs.declared.Containment.{Containment}
use Rattle.plane.specs.declared.Containment.TheVariants.{Inside, OnBoundary, Outside}
use Rattle.plane.specs.declared.PlanarPoint.{PlanarPoint}
use Rattle.ring_measure.specs.Measures
use Rattle.math.specs.Number
use Rattle.math.specs.Number.{zero_float, distance, add, fmax}
use Rattle.outline.specs.Outlines.{no_outline}
use Rattle.ring.specs.Store.{stored}
use Rattle.ring_contain.specs.Contains.{ring_contains}
use Rattle.base.specs.Loop.{rounds}
use Rattle.plane.specs.Points.{distance_to}
use Rattle.ring_measure.specs.Measures.{extent}
use Rattle.ring_near.specs.Near.{nearest}

unfoldable pub no_region : Region
no_region = record { outer = no_outline; points = replicate 512 zero_float; counts = replicate 8 0; holes = 0 }

-- a region handed in: the numbers and the count of its outer ring, the flat numbers of its holes, their counts, and how many holes there
-- are
unfoldable pub region_of : List Float → ℕ → List Float → List ℕ → ℕ → Region
region_of ps n hs cs h = record { outer = record { points = ps; count = n }; points = hs; counts = cs; holes = h }

-- hole k: its numbers, and how many vertices they are
unfoldable pub hole_points : Region → ℕ → List Float
hole_points r k = drop (64 * k) r.points

unfoldable pub hole_count : Region → ℕ → ℕ
hole_count r k = get_or r.counts k 0

-- ring 0 is the outer one, ring k + 1 is hole k
unfoldable pub ring_points : Region → ℕ → List Float
ring_points r zero = r.outer.points
ring_points r (suc k) = hole_points r k

unfoldable pub ring_count : Region → ℕ → ℕ
ring_count r zero = r.outer.count
ring_count r (suc k) = hole_count r k

-- the vertex counts of its rings
unfoldable pub ring_count_step : Region → ℕ → List ℕ → List ℕ
ring_count_step r k counts = counts ++ (ring_count r k ∷ [])

unfoldable pub ring_counts : Region → List ℕ
ring_counts r = rounds (ring_count_step r) (r.holes + 1) []

unfoldable pub with_outer : Region → Outline → Region
with_outer r o = record { outer = o; points = r.points; counts = r.counts; holes = r.holes }

-- a hole more, of n vertices of ps, reversed if `back`, in the place after the others
unfoldable pub store_hole : Region → List Float → ℕ → Bool → Region
store_hole r ps n back =
    record {
      outer = r.outer;
      points = stored ps n back (32 * r.holes) r.points;
      counts = set r.counts r.holes n;
      holes = r.holes + 1;
    }

-- a hole past the eighth is counted and not stored
unfoldable pub count_hole : Region → Region
count_hole r = record { outer = r.outer; points = r.points; counts = r.counts; holes = r.holes + 1 }

unfoldable pub with_hole : Region → List Float → ℕ → Bool → Region
with_hole r ps n back = cond (ltb r.holes 8) (store_hole r ps n back) (count_hole r)

-- ---- where a point lies, and the nearest point

-- a point in a hole is outside the region
unfoldable pub in_hole : Containment → Containment
in_hole Inside = Outside
in_hole OnBoundary = OnBoundary
in_hole Outside = Inside

unfoldable pub while_inside : Containment → Containment → Containment
while_inside Inside x = x
while_inside OnBoundary x = OnBoundary
while_inside Outside x = Outside

unfoldable pub contains_step : Region → PlanarPoint → ℕ → Containment → Containment
contains_step r p k s = while_inside s (in_hole (ring_contains (hole_points r k) (hole_count r k) p))

unfoldable pub region_contains : Region → PlanarPoint → Containment
region_contains r p = rounds (contains_step r p) r.holes (ring_contains r.outer.points r.outer.count p)

unfoldable pub closer : PlanarPoint → PlanarPoint → PlanarPoint → PlanarPoint
closer p candidate best = cond (lt (distance_to p candidate) (distance_to p best)) candidate best

unfoldable pub closest_step : Region → PlanarPoint → ℕ → PlanarPoint → PlanarPoint
closest_step r p k best = closer p (nearest (hole_points r k) (hole_count r k) p).foot best

unfoldable pub closest_boundary_point : Region → PlanarPoint → PlanarPoint
closest_boundary_point r p = rounds (closest_step r p) r.holes (nearest r.outer.points r.outer.count p).foot

unfoldable pub distance_to_boundary : Region → PlanarPoint → Float
distance_to_boundary r p = distance_to p (closest_boundary_point r p)

-- ---- area, perimeter, extent

unfoldable pub area_step : Region → ℕ → Float → Float
area_step r k s = add s (Measures.area (hole_points r k) (hole_count r k))

unfoldable pub area : Region → Float
area r = fmax (Number.sub (Measures.area r.outer.points r.outer.count) (rounds (area_step r) r.holes zero_float)) zero_float

unfoldable pub perimeter_step : Region → ℕ → Float → Float
perimeter_step r k s = add s (Measures.perimeter (hole_points r k) (hole_count r k))

unfoldable pub perimeter : Region → Float
perimeter r = distance (add (Measures.perimeter r.outer.points r.outer.count) (rounds (perimeter_step r) r.holes zero_float))

unfoldable pub extent_step : Region → ℕ → Float → Float
extent_step r k s = fmax s (extent (hole_points r k) (hole_count r k))

unfoldable pub region_extent : Region → Float
region_extent r = rounds (extent_step r) r.holes (extent r.outer.points r.outer.count)

-- opens every definition above, for a proof that computes with all of them
unfoldable pub open_regions : Unit {0}
unfolding no_region region_of hole_points hole_count ring_points ring_count ring_count_step ring_counts with_outer store_hole count_hole
    with_hole in_hole while_inside contains_step region_contains closer closest_step closest_boundary_point distance_to_boundary area_step
    area perimeter_step perimeter extent_step region_extent
open_regions = tt
