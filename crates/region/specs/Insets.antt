-- holes.rs, `Region::inset`: 21, 13 and 14, the sweep of outer ring and holes together, the pieces of its finished rings, and what is asked
-- of the region that is left.
-- Assumes nothing.
use Rattle.std.specs.Prelude.{ℕ, ◌+◌, Bool, true, false, cond, not, ◌&&◌, ◌||◌, List, ltb, Float}
use Rattle.std.specs.Float.Ieee.{lt, le, eq}
use Rattle.region.specs.declared.Region.{Region}
use Rattle.region.specs.declared.NewRegion.{NewRegion}
use Rattle.region.specs.declared.RegionPieces.{RegionPieces}
use Rattle.region.specs.declared.RegionOffset.{RegionOffset}
use Rattle.error.specs.declared.Refusal.{Refusal}
use Rattle.error.specs.declared.Refusal.TheVariants.{Granted, Splits, ManyPieces, Collapses, Shape}
use Rattle.plane.specs.declared.PlanarPoint.{PlanarPoint}
use Rattle.front.specs.declared.Edge.{Edge}
use Rattle.front.specs.declared.Walk.{Walk}
use Rattle.front.specs.declared.Sweep.{Sweep}
use Rattle.front.specs.declared.Loaded.{Loaded}
use Rattle.offset.specs.declared.Piece.{Piece}
use Rattle.offset.specs.declared.Piece.TheVariants.{Shrunk, Failed, Whole}
use Rattle.math.specs.Number
use Rattle.math.specs.Number.{zero_float}
use Rattle.error.specs.Refusals.{region_failure, granted}
use Rattle.base.specs.Loop.{rounds}
use Rattle.ring.specs.Ring.{vertex_at}
use Rattle.ring_measure.specs.Measures.{signed_area}
use Rattle.ring_cross.specs.Meet.{rings_meet}
use Rattle.outline.specs.Outlines.{stored_outline, offset_tolerance}
use Rattle.front.specs.Loading.{load_ring, loaded_nothing}
use Rattle.front.specs.Sweeps.{offset_rings}
use Rattle.front.specs.Finished.{for_each_ring}
use Rattle.offset.specs.Clear.{is_inside, every_vertex}
use Rattle.offset.specs.Rings.{offset_piece}
use Rattle.offset.specs.Offsets.{check_distance}
use Rattle.region.specs.Regions.{no_region, with_outer, store_hole, region_contains, distance_to_boundary, ring_points, ring_count}
use Rattle.region.specs.Regions.{region_extent, hole_points, hole_count}
use Rattle.region.specs.Checks.{check_region, proper_region, region_refused}

-- ---- the pieces of a region's inset: a ring whose area is above 0 is the outer one, any other is a hole

unfoldable pub region_pieces_refused : Refusal → RegionPieces
region_pieces_refused r = record { refusal = r; found = false; shape = no_region }

unfoldable pub is_outer : Walk → Bool
is_outer w = lt zero_float (signed_area w.points w.count)

unfoldable pub with_outer_piece : Float → Walk → RegionPieces → ℕ → Bool → RegionPieces
with_outer_piece d w s n back =
    cond s.found (region_pieces_refused (Splits d))
    (record { refusal = Granted; found = true; shape = with_outer s.shape (stored_outline w.points n back) })

unfoldable pub with_hole_piece : Walk → RegionPieces → ℕ → Bool → RegionPieces
with_hole_piece w s n back =
    cond (ltb s.shape.holes 8) (record { refusal = Granted; found = s.found; shape = store_hole s.shape w.points n back })
    (region_pieces_refused (ManyPieces 9))

unfoldable pub with_region_piece : Float → Walk → RegionPieces → Piece → RegionPieces
with_region_piece d w s Shrunk = s
with_region_piece d w s (Failed r) = region_pieces_refused r
with_region_piece d w s (Whole n back) = cond (is_outer w) (with_outer_piece d w s n back) (with_hole_piece w s n back)

unfoldable pub visit_region_piece : Float → Float → ℕ → Walk → RegionPieces → RegionPieces
visit_region_piece d tolerance place w s =
    with_region_piece d w s (offset_piece (cond (is_outer w) 128 32) place d tolerance w)

unfoldable pub region_pieces_refusal : RegionPieces → Refusal
region_pieces_refusal s = s.refusal

unfoldable pub region_pieces : List Edge → PlanarPoint → Float → Float → RegionPieces
region_pieces f origin d tolerance =
    for_each_ring region_pieces_refusal (visit_region_piece d tolerance) f d origin
    (record { refusal = Granted; found = false; shape = no_region })

-- ---- the region that is left keeps clear of the source, ring by ring

unfoldable pub clear_of_region : Float → Region → PlanarPoint → Bool
clear_of_region least r p = is_inside (region_contains r p) && le least (distance_to_boundary r p)

unfoldable pub rings_clear_step : Float → Region → Region → ℕ → Bool → Bool
rings_clear_step least r q k s = s && every_vertex (clear_of_region least r) (ring_points q k) (ring_count q k)

unfoldable pub region_keeps_clear : Float → Region → Region → Bool
region_keeps_clear least r q = rounds (rings_clear_step least r q) (q.holes + 1) true

unfoldable pub crosses_ring_step : Region → List Float → ℕ → ℕ → Bool → Bool
crosses_ring_step r qs m k s = s || rings_meet qs m (ring_points r k) (ring_count r k)

unfoldable pub crosses_ring : Region → List Float → ℕ → Bool
crosses_ring r qs m = rounds (crosses_ring_step r qs m) (r.holes + 1) false

unfoldable pub crosses_step : Region → Region → ℕ → Bool → Bool
crosses_step r q k s = s || crosses_ring r (ring_points q k) (ring_count q k)

-- some ring of the region q meets some ring of the source r
unfoldable pub crosses : Region → Region → Bool
crosses r q = rounds (crosses_step r q) (q.holes + 1) false

unfoldable pub inset_clear : Region → Float → Float → Region → NewRegion
inset_clear r d tolerance q =
    cond (region_keeps_clear (Number.sub d tolerance) r q && not (crosses r q)) (record { refusal = Granted; shape = q })
    (region_refused (Splits d))

-- the new region's own questions, 11 and 12
unfoldable pub inset_checked : Region → Float → Float → Region → Refusal → NewRegion
inset_checked r d tolerance q u = cond (granted u) (inset_clear r d tolerance q) (region_refused (region_failure d u))

unfoldable pub inset_found : Region → Float → Float → RegionPieces → NewRegion
inset_found r d tolerance p =
    cond (granted p.refusal)
    (cond p.found (inset_checked r d tolerance p.shape (check_region p.shape)) (region_refused (Collapses d)))
    (region_refused p.refusal)

-- ---- inset

unfoldable pub inset_finished : Region → Float → Float → List Edge → NewRegion
inset_finished r d tolerance f = inset_found r d tolerance (region_pieces f (vertex_at r.outer.points 0) d tolerance)

unfoldable pub inset_swept : Region → Float → Sweep → NewRegion
inset_swept r d s =
    cond (granted s.refusal) (inset_finished r d (offset_tolerance d (region_extent r)) s.edges) (region_refused s.refusal)

-- an answer and the events that the sweep completed
unfoldable pub region_counted : NewRegion → Sweep → RegionOffset
region_counted a s =
    record { refusal = a.refusal; shape = a.shape; collapses = s.collapses; divides = s.divides; joins = s.joins }

-- an answer without a sweep
unfoldable pub region_plain : Refusal → Region → RegionOffset
region_plain u r = record { refusal = u; shape = r; collapses = 0; divides = 0; joins = 0 }

-- the front's work for a region: the outer ring forwards, the holes backwards
unfoldable pub load_hole_step : Region → PlanarPoint → Float → ℕ → Loaded → Loaded
load_hole_step r origin d k s = load_ring (hole_points r k) (hole_count r k) true origin d s

unfoldable pub load_region : Region → PlanarPoint → Float → Loaded
load_region r origin d =
    rounds (load_hole_step r origin d) r.holes (load_ring r.outer.points r.outer.count false origin d loaded_nothing)

unfoldable pub region_sweep : Region → Float → Sweep
region_sweep r d = offset_rings d (load_region r (vertex_at r.outer.points 0) d)

unfoldable pub inset_from : Region → Float → Sweep → RegionOffset
inset_from r d s = region_counted (inset_swept r d s) s

-- an inset by 0 or −0 gives the source itself
unfoldable pub inset_by : Region → Float → Refusal → RegionOffset
inset_by r d u =
    cond (granted u) (cond (eq d zero_float) (region_plain Granted r) (inset_from r d (region_sweep r d))) (region_plain u no_region)

unfoldable pub region_inset : Region → Float → RegionOffset
region_inset r d = cond (proper_region r) (inset_by r d (check_distance d)) (region_plain Shape no_region)

-- opens every definition above, for a proof that computes with all of them
unfoldable pub open_insets : Unit {0}
unfolding region_pieces_refused is_outer with_outer_piece with_hole_piece with_region_piece visit_region_piece region_pieces_refusal
    region_pieces clear_of_region rings_clear_step region_keeps_clear crosses_ring_step crosses_ring crosses_step crosses inset_clear
    inset_checked inset_found inset_finished inset_swept region_counted region_plain load_hole_step load_region region_sweep inset_from
    inset_by region_inset
open_insets = tt
