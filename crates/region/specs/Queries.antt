-- What is asked of a region that is handed in: question 21 first, then 2 of the point, then the value; and what is written to lent output.
-- Assumes nothing.
use Rattle.std.specs.Prelude.{ℕ, ◌+◌, ◌*◌, false, cond, List, ◌++◌, ltb, take, replicate, Float}
use Rattle.region.specs.declared.Region.{Region}
use Rattle.error.specs.declared.Refusal.{Refusal}
use Rattle.plane.specs.declared.PlanarPoint.{PlanarPoint}
use Rattle.outline_ask.specs.declared.Placed.{Placed}
use Rattle.outline_ask.specs.declared.Measured.{Measured}
use Rattle.outline_ask.specs.declared.Footed.{Footed}
use Rattle.outline.specs.declared.Outline.{Outline}
use Rattle.outline.specs.declared.NewOutline.{NewOutline}
use Rattle.region.specs.declared.RegionWritten.{RegionWritten}
use Rattle.region.specs.declared.RegionOffset.{RegionOffset}
use Rattle.region.specs.declared.InsetWritten.{InsetWritten}
use Rattle.error.specs.declared.Refusal.TheVariants.{Granted, Shape}
use Rattle.error.specs.Refusals.{granted}
use Rattle.outline.specs.Outlines.{no_outline, stored_outline, outline_refused}
use Rattle.outline_ask.specs.Queries.{placed, measured, footed}
use Rattle.outline_lent.specs.Writes.{write_ring, write_refusal}
use Rattle.outline.specs.Outlines.{ask}
use Rattle.region.specs.Regions
use Rattle.region.specs.Regions.{ring_points, ring_count, ring_counts, hole_points, hole_count}
use Rattle.region.specs.Checks.{proper_region}
use Rattle.plane.specs.Points.{check_point}
use Rattle.region.specs.Insets.{region_inset}
use Rattle.base.specs.Loop.{rounds}

unfoldable pub ask_region : Region → Refusal → Refusal
ask_region r u = ask (proper_region r) u

unfoldable pub region_contains : Region → PlanarPoint → Placed
region_contains r p = placed (ask_region r (check_point p)) (Regions.region_contains r p)

unfoldable pub region_distance : Region → PlanarPoint → Measured
region_distance r p = measured (ask_region r (check_point p)) (Regions.distance_to_boundary r p)

unfoldable pub region_closest : Region → PlanarPoint → Footed
region_closest r p = footed (ask_region r (check_point p)) (Regions.closest_boundary_point r p)

unfoldable pub region_area : Region → Measured
region_area r = measured (ask_region r Granted) (Regions.area r)

unfoldable pub region_perimeter : Region → Measured
region_perimeter r = measured (ask_region r Granted) (Regions.perimeter r)

-- ---- the readers `outer` and `holes`, as outlines. There is no hole from `holes` on: it reads the empty outline.

unfoldable pub read_outline : Region → Outline → NewOutline
read_outline r o = cond (proper_region r) (record { refusal = Granted; shape = o }) (outline_refused Shape)

unfoldable pub region_outer : Region → NewOutline
region_outer r = read_outline r r.outer

unfoldable pub hole_outline : Region → ℕ → Outline
hole_outline r k = cond (ltb k r.holes) (stored_outline (hole_points r k) (hole_count r k) false) no_outline

unfoldable pub region_hole : Region → ℕ → NewOutline
region_hole r k = read_outline r (hole_outline r k)

-- ---- question 20: lent output, the outer ring first, two numbers a vertex. A refused write changes nothing, and a granted one only the
-- numbers that it writes.

-- the vertices of the rings before ring k
unfoldable pub before_step : Region → ℕ → ℕ → ℕ
before_step r k s = s + ring_count r k

unfoldable pub before : Region → ℕ → ℕ
before r k = rounds (before_step r) k 0

unfoldable pub needed : Region → ℕ
needed r = 2 * before r (r.holes + 1)

unfoldable pub write_rings_step : Region → ℕ → List Float → List Float
write_rings_step r k out = write_ring (ring_points r k) (ring_count r k) (2 * before r k) out

unfoldable pub write_rings : Region → List Float → List Float
write_rings r out = rounds (write_rings_step r) (r.holes + 1) out

-- the vertices of each ring, and zeros up to nine
unfoldable pub nine_counts : Region → List ℕ
nine_counts r = take 9 (ring_counts r ++ replicate 9 0)

unfoldable pub no_rings : Refusal → RegionWritten
no_rings u = record { refusal = u; rings = 0; counts = replicate 9 0 }

-- what is answered of a region, by what its write was refused
unfoldable pub rings_told : Region → Refusal → RegionWritten
rings_told r u = cond (granted u) (record { refusal = Granted; rings = r.holes + 1; counts = nine_counts r }) (no_rings u)

-- 21, then 20
unfoldable pub write_region : Region → List Float → Refusal
write_region r out = ask_region r (write_refusal (needed r) out)

-- what a write of a region answers
unfoldable pub region_write : Region → List Float → RegionWritten
region_write r out = rings_told r (write_region r out)

-- the lent numbers afterwards
unfoldable pub written_region : Region → List Float → List Float
written_region r out = cond (granted (write_region r out)) (write_rings r out) out

-- ---- an inset whose numbers go into lent output: the inset's own refusal first, and 20 last

unfoldable pub write_inset : RegionOffset → List Float → Refusal
write_inset a out = cond (granted a.refusal) (write_refusal (needed a.shape) out) a.refusal

-- the completed events are handed back where 20 is refused, too
unfoldable pub inset_told : RegionOffset → RegionWritten → InsetWritten
inset_told a w =
    record { refusal = w.refusal; rings = w.rings; counts = w.counts; collapses = a.collapses; divides = a.divides; joins = a.joins }

-- what it answers
unfoldable pub inset_write : Region → Float → List Float → InsetWritten
inset_write r d out =
    inset_told (region_inset r d) (rings_told (region_inset r d).shape (write_inset (region_inset r d) out))

unfoldable pub inset_over : RegionOffset → List Float → List Float
inset_over a out = cond (granted (write_inset a out)) (write_rings a.shape out) out

-- the lent numbers afterwards
unfoldable pub written_inset : Region → Float → List Float → List Float
written_inset r d out = inset_over (region_inset r d) out

-- opens every definition above, for a proof that computes with all of them
unfoldable pub open_queries : Unit {0}
unfolding ask_region region_contains region_distance region_closest region_area region_perimeter read_outline region_outer hole_outline
    region_hole before_step before needed write_rings_step write_rings nine_counts no_rings rings_told write_region region_write
    written_region write_inset inset_told inset_write inset_over written_inset
open_queries = tt
