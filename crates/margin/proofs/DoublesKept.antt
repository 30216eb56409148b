-- The numbers of an answer are doubles where those of the source are. Assumes nothing.
use mathlib.Core.Bool.{Bool, false, cond, ◌&&◌, not, ◌||◌}
use mathlib.Core.List.{List, [], ◌∷◌}
use Prim.Native.Nat.{ℕ, zero, suc, ◌+◌, ◌*◌}
use lib.Dec.{T, ltb}
use lib.ListN.{set, replicate}
use lib.Ieee.{Float, binary64, fits, eq, add}
use lib.Ieee.Fits.{add-fits}
use lib.Ieee.Bits.{of_bits-fits}
use Rattle.math.specs.Number
use Rattle.math.specs.Number.{zero_float, finite}
use Rattle.plane.specs.declared.PlanarPoint.{PlanarPoint}
use Rattle.error.specs.declared.Refusal.{Refusal}
use Rattle.error.specs.declared.Refusal.TheVariants.{Granted, Splits, Collapses, ManyPieces, Shape}
use Rattle.error.specs.Refusals.{granted}
use Rattle.base.proofs.Laws.{rounds_keep}
use Rattle.base.proofs.Choices.{both}
use Rattle.ring.specs.Ring.{vertex_at, source, stored_at}
use Rattle.ring.specs.Store.{store_vertex, store_step, stored}
use Rattle.ring_measure.specs.Measures.{signed_area, extent}
use Rattle.ring_cross.specs.Meet.{rings_meet}
use Rattle.outline.specs.declared.Outline.{Outline}
use Rattle.outline.specs.declared.NewOutline.{NewOutline}
use Rattle.outline.specs.Outlines.{proper, no_outline, stored_outline, outline_refused, offset_tolerance}
use Rattle.front.specs.declared.Edge.{Edge}
use Rattle.front.specs.declared.Moving.{Moving}
use Rattle.std.specs.Prelude.{Option, None, Some}
use Rattle.front.specs.declared.Walk.{Walk}
use Rattle.front.specs.declared.Sweep.{Sweep}
use Rattle.front.specs.Edges.{edge, vertex}
use Rattle.front.specs.Finished.{walk_lost, walk_on, walk_vertex, walk_step, walk_from, walk}
use Rattle.offset.specs.declared.Piece.{Piece}
use Rattle.offset.specs.declared.Piece.TheVariants.{Shrunk, Failed, Whole}
use Rattle.offset.specs.declared.Pieces.{Pieces}
use Rattle.offset.specs.declared.Offset.{Offset}
use Rattle.offset.specs.Rings.{offset_piece}
use Rattle.offset.specs.Offsets.{check_distance, pieces_refused, expected, with_piece, visit_piece, pieces_refusal, pieces, keeps_clear, offset_clear}
use Rattle.offset.specs.Offsets.{offset_found, offset_finished, offset_swept, offset_counted, offset_plain, sweep, offset_from, offset_by, offset}
use Rattle.offset.proofs.Visits.{visits_keep}
use Rattle.region.specs.declared.Region.{Region}
use Rattle.region.specs.declared.NewRegion.{NewRegion}
use Rattle.region.specs.declared.RegionPieces.{RegionPieces}
use Rattle.region.specs.declared.RegionOffset.{RegionOffset}
use Rattle.region.specs.Regions.{no_region, with_outer, store_hole, region_extent}
use Rattle.region.specs.Checks.{check_region, proper_region, region_refused}
use Rattle.region.specs.Insets.{region_pieces_refused, is_outer, with_outer_piece, with_hole_piece, with_region_piece, visit_region_piece}
use Rattle.region.specs.Insets.{region_pieces_refusal, region_pieces, region_keeps_clear, crosses, inset_clear, inset_checked, inset_found}
use Rattle.region.specs.Insets.{inset_finished, inset_swept, region_counted, region_plain, region_sweep, inset_from, inset_by, region_inset}
use Rattle.margin.specs.Margin.{Doubles, OffsetDoubles, RegionDoubles, InsetDoubles}

-- ---- lists

set_doubles : (ps : List Float) (i : ℕ) (x : Float) → Doubles ps → T (fits binary64 x) → Doubles (set ps i x)
set_doubles [] i x h f k = h k
set_doubles (y ∷ ps) zero x h f zero = f
set_doubles (y ∷ ps) zero x h f (suc k) = h (suc k)
set_doubles (y ∷ ps) (suc i) x h f zero = h 0
set_doubles (y ∷ ps) (suc i) x h f (suc k) = set_doubles ps i x (λ (j : ℕ). h (suc j)) f k

same_doubles : (n : ℕ) (x : Float) → T (fits binary64 x) → Doubles (replicate n x)
unfolding fits
same_doubles zero x f k = tt
same_doubles (suc n) x f zero = f
same_doubles (suc n) x f (suc k) = same_doubles n x f k

pub zeros_doubles : (n : ℕ) → Doubles (replicate n zero_float)
zeros_doubles n = same_doubles n zero_float (of_bits-fits binary64 0x0)

store_doubles : (out : List Float) (k : ℕ) (v : PlanarPoint) → Doubles out → T (fits binary64 v.east) → T (fits binary64 v.north) → Doubles (store_vertex out k v)
unfolding store_vertex
store_doubles out k v h e n = set_doubles (set out (2 * k) v.east) (2 * k + 1) v.north (set_doubles out (2 * k) v.east h e) n

pub stored_doubles : (ps : List Float) (n : ℕ) (back : Bool) (base : ℕ) (out : List Float) → Doubles ps → Doubles out → Doubles (stored ps n back base out)
unfolding stored store_step stored_at vertex_at
stored_doubles ps n back base out p h =
    rounds_keep (store_step ps n back base) (λ (k : ℕ) (s : List Float). Doubles s) out h
    (λ k s g. store_doubles s (base + k) (stored_at ps n back k) g (p (2 * source n back k)) (p (2 * source n back k + 1))) n

-- ---- shapes

pub record DoubleOutline (o : Outline) : Type 0 where
  pub all : Doubles o.points

no_doubles : DoubleOutline no_outline
unfolding no_outline
no_doubles = record { all = zeros_doubles 256 }

pub outline_doubles : (ps : List Float) (n : ℕ) (back : Bool) → Doubles ps → DoubleOutline (stored_outline ps n back)
unfolding stored_outline
outline_doubles ps n back h = record { all = stored_doubles ps n back 0 (replicate 256 zero_float) h (zeros_doubles 256) }

no_region_doubles : RegionDoubles no_region
unfolding no_region no_outline
no_region_doubles = record { outer = zeros_doubles 256; holes = zeros_doubles 512 }

-- ---- a finished ring

record DoubleWalk (w : Walk) : Type 0 where
  all : Doubles w.points

lost_doubles : (w : Walk) → DoubleWalk w → DoubleWalk (walk_lost w)
unfolding walk_lost
lost_doubles w h = record { all = h.all }

on_doubles : (first next : ℕ) (p : PlanarPoint) (w : Walk) → DoubleWalk w → T (fits binary64 p.east) → T (fits binary64 p.north) → DoubleWalk (walk_on first next p w)
unfolding walk_on
on_doubles first next p w h e n = both DoubleWalk (finite p.east && finite p.north) (record { all = store_doubles w.points w.count p h.all e n }) (lost_doubles w h)

vertex_doubles : (first next : ℕ) (origin : PlanarPoint) (w : Walk) (v : Option Moving) → DoubleWalk w → DoubleWalk (walk_vertex first next origin w v)
unfolding walk_vertex
vertex_doubles first next origin w None h = lost_doubles w h
vertex_doubles first next origin w (Some m) h =
    let p : PlanarPoint = m.at in
    on_doubles first next (record { east = Number.add p.east origin.east; north = Number.add p.north origin.north }) w h (add-fits binary64 p.east origin.east) (add-fits binary64 p.north origin.north)

walk_doubles : (f : List Edge) (t : Float) (origin : PlanarPoint) (first : ℕ) (seen : List Bool) → DoubleWalk (walk f t origin first seen)
unfolding walk walk_step walk_from
walk_doubles f t origin first seen =
    rounds_keep (walk_step f t origin first) (λ (k : ℕ) (w : Walk). DoubleWalk w) (walk_from first seen) (record { all = zeros_doubles 256 })
    (λ k w h. both DoubleWalk (w.closed || w.lost) h (vertex_doubles first (edge f w.at).next origin w (vertex f w.at t) h)) 128

-- ---- an outline's offset

record DoublePieces (p : Pieces) : Type 0 where
  all : DoubleOutline p.shape

refused_doubles : (r : Refusal) → DoublePieces (pieces_refused r)
unfolding pieces_refused
refused_doubles r = record { all = no_doubles }

with_doubles : (outward : Bool) (d : Float) (w : Walk) (s : Pieces) (p : Piece) → DoubleWalk w → DoublePieces s → DoublePieces (with_piece outward d w s p)
unfolding with_piece
with_doubles outward d w s Shrunk g h = h
with_doubles outward d w s (Failed r) g h = refused_doubles r
with_doubles outward d w s (Whole n back) g h =
    both DoublePieces (expected outward (signed_area w.points w.count) && not s.found) (record { all = outline_doubles w.points n back g.all }) (refused_doubles (Splits d))

pieces_doubles : (f : List Edge) (origin : PlanarPoint) (outward : Bool) (d tolerance : Float) → DoublePieces (pieces f origin outward d tolerance)
unfolding pieces visit_piece
pieces_doubles f origin outward d tolerance =
    visits_keep DoublePieces pieces_refusal (visit_piece outward d tolerance) f d origin DoubleWalk (walk_doubles f d origin)
    (λ place w g s h. with_doubles outward d w s (offset_piece 128 place d tolerance w) g h)
    (record { refusal = Granted; found = false; shape = no_outline }) (record { all = no_doubles })

record DoubleNew (a : NewOutline) : Type 0 where
  all : DoubleOutline a.shape

new_refused : (r : Refusal) → DoubleNew (outline_refused r)
unfolding outline_refused
new_refused r = record { all = no_doubles }

swept_doubles : (o : Outline) (outward : Bool) (d : Float) (s : Sweep) → DoubleNew (offset_swept o outward d s)
unfolding offset_swept offset_finished offset_found offset_clear
swept_doubles o outward d s =
    let tolerance : Float = offset_tolerance d (extent o.points o.count) in
    let p : Pieces = pieces s.edges (vertex_at o.points 0) outward d tolerance in
    let g : DoublePieces p = pieces_doubles s.edges (vertex_at o.points 0) outward d tolerance in
    let q : Outline = p.shape in
    both DoubleNew (granted s.refusal)
    (both DoubleNew (granted p.refusal)
    (both DoubleNew p.found
    (both DoubleNew (keeps_clear outward (Number.sub d tolerance) o.points o.count q.points q.count && not (rings_meet q.points q.count o.points o.count)) (record { all = g.all }) (new_refused (Splits d)))
    (new_refused (Collapses d)))
    (new_refused p.refusal))
    (new_refused s.refusal)

record DoubleOffset (a : Offset) : Type 0 where
  all : Doubles a.shape.points

plain_doubles : (r : Refusal) (o : Outline) → Doubles o.points → DoubleOffset (offset_plain r o)
unfolding offset_plain
plain_doubles r o h = record { all = h }

from_doubles : (o : Outline) (outward : Bool) (d : Float) (s : Sweep) → DoubleOffset (offset_from o outward d s)
unfolding offset_from offset_counted
from_doubles o outward d s = record { all = (swept_doubles o outward d s).all.all }

offset_all : (o : Outline) (outward : Bool) (d : Float) → Doubles o.points → DoubleOffset (offset o outward d)
unfolding offset offset_by
offset_all o outward d h =
    both DoubleOffset (proper 128 o.points o.count)
    (both DoubleOffset (granted (check_distance d)) (both DoubleOffset (eq d zero_float) (plain_doubles Granted o h) (from_doubles o outward d (sweep o outward d))) (plain_doubles (check_distance d) no_outline no_doubles.all))
    (plain_doubles Shape no_outline no_doubles.all)

pub offset_doubles : OffsetDoubles
offset_doubles o outward d h = (offset_all o outward d h).all

-- ---- a region's inset

record DoubleRegionPieces (p : RegionPieces) : Type 0 where
  all : RegionDoubles p.shape

region_refused_doubles : (r : Refusal) → DoubleRegionPieces (region_pieces_refused r)
unfolding region_pieces_refused
region_refused_doubles r = record { all = no_region_doubles }

region_piece_doubles : (d : Float) (w : Walk) (s : RegionPieces) (p : Piece) → DoubleWalk w → DoubleRegionPieces s → DoubleRegionPieces (with_region_piece d w s p)
unfolding with_region_piece with_outer_piece with_hole_piece with_outer store_hole
region_piece_doubles d w s Shrunk g h = h
region_piece_doubles d w s (Failed r) g h = region_refused_doubles r
region_piece_doubles d w s (Whole n back) g h =
    both DoubleRegionPieces (is_outer w)
    (both DoubleRegionPieces s.found (region_refused_doubles (Splits d)) (record { all = record { outer = (outline_doubles w.points n back g.all).all; holes = h.all.holes } }))
    (both DoubleRegionPieces (ltb s.shape.holes 8)
    (record { all = record { outer = h.all.outer; holes = stored_doubles w.points n back (32 * s.shape.holes) s.shape.points g.all h.all.holes } })
    (region_refused_doubles (ManyPieces 9)))

region_pieces_doubles : (f : List Edge) (origin : PlanarPoint) (d tolerance : Float) → DoubleRegionPieces (region_pieces f origin d tolerance)
unfolding region_pieces visit_region_piece
region_pieces_doubles f origin d tolerance =
    visits_keep DoubleRegionPieces region_pieces_refusal (visit_region_piece d tolerance) f d origin DoubleWalk (walk_doubles f d origin)
    (λ place w g s h. region_piece_doubles d w s (offset_piece (cond (is_outer w) 128 32) place d tolerance w) g h)
    (record { refusal = Granted; found = false; shape = no_region }) (record { all = no_region_doubles })

record DoubleNewRegion (a : NewRegion) : Type 0 where
  all : RegionDoubles a.shape

new_region_refused : (r : Refusal) → DoubleNewRegion (region_refused r)
unfolding region_refused
new_region_refused r = record { all = no_region_doubles }

region_swept_doubles : (r : Region) (d : Float) (s : Sweep) → DoubleNewRegion (inset_swept r d s)
unfolding inset_swept inset_finished inset_found inset_checked inset_clear
region_swept_doubles r d s =
    let tolerance : Float = offset_tolerance d (region_extent r) in
    let p : RegionPieces = region_pieces s.edges (vertex_at r.outer.points 0) d tolerance in
    let g : DoubleRegionPieces p = region_pieces_doubles s.edges (vertex_at r.outer.points 0) d tolerance in
    let q : Region = p.shape in
    both DoubleNewRegion (granted s.refusal)
    (both DoubleNewRegion (granted p.refusal)
    (both DoubleNewRegion p.found
    (both DoubleNewRegion (granted (check_region q))
    (both DoubleNewRegion (region_keeps_clear (Number.sub d tolerance) r q && not (crosses r q)) (record { all = g.all }) (new_region_refused (Splits d)))
    (new_region_refused _))
    (new_region_refused (Collapses d)))
    (new_region_refused p.refusal))
    (new_region_refused s.refusal)

record DoubleInset (a : RegionOffset) : Type 0 where
  all : RegionDoubles a.shape

region_plain_doubles : (u : Refusal) (r : Region) → RegionDoubles r → DoubleInset (region_plain u r)
unfolding region_plain
region_plain_doubles u r h = record { all = h }

region_from_doubles : (r : Region) (d : Float) (s : Sweep) → DoubleInset (inset_from r d s)
unfolding inset_from region_counted
region_from_doubles r d s = record { all = (region_swept_doubles r d s).all }

inset_all : (r : Region) (d : Float) → RegionDoubles r → DoubleInset (region_inset r d)
unfolding region_inset inset_by
inset_all r d h =
    both DoubleInset (proper_region r)
    (both DoubleInset (granted (check_distance d)) (both DoubleInset (eq d zero_float) (region_plain_doubles Granted r h) (region_from_doubles r d (region_sweep r d))) (region_plain_doubles (check_distance d) no_region no_region_doubles))
    (region_plain_doubles Shape no_region no_region_doubles)

pub inset_doubles : InsetDoubles
inset_doubles r d h = (inset_all r d h).all
