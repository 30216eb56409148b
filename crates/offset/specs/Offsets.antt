-- polygon.rs, `Polygon::inset` and `outset`: 21, 13 and 14, the sweep, the pieces of its finished rings, and what is asked of the one that
-- is left. Assumes nothing.
use Rattle.std.specs.Prelude.{Bool, true, false, cond, ◌&&◌, not, Float, ℕ, List}
use Rattle.std.specs.Float.{binary64}
use Rattle.std.specs.Float.Ieee.{lt, le, eq, of_bits}
use Rattle.plane.specs.declared.PlanarPoint.{PlanarPoint}
use Rattle.error.specs.declared.Refusal.{Refusal}
use Rattle.error.specs.declared.Refusal.TheVariants.{Granted, Splits, Collapses, Far, Negative, Shape}
use Rattle.outline.specs.declared.Outline.{Outline}
use Rattle.outline.specs.declared.NewOutline.{NewOutline}
use Rattle.front.specs.declared.Edge.{Edge}
use Rattle.front.specs.declared.Walk.{Walk}
use Rattle.front.specs.declared.Sweep.{Sweep}
use Rattle.front.specs.declared.Loaded.{Loaded}
use Rattle.offset.specs.declared.Piece.{Piece}
use Rattle.offset.specs.declared.Piece.TheVariants.{Shrunk, Failed, Whole}
use Rattle.offset.specs.declared.Pieces.{Pieces}
use Rattle.offset.specs.declared.Offset.{Offset}
use Rattle.math.specs.Number
use Rattle.math.specs.Number.{finite, zero_float}
use Rattle.error.specs.Refusals.{granted}
use Rattle.ring.specs.Ring.{vertex_at}
use Rattle.ring_measure.specs.Measures.{signed_area, extent}
use Rattle.ring_near.specs.Near.{nearest}
use Rattle.ring_contain.specs.Contains.{ring_contains}
use Rattle.ring_cross.specs.Meet.{rings_meet}
use Rattle.outline.specs.Outlines.{no_outline, stored_outline, outline_refused, offset_tolerance, proper}
use Rattle.front.specs.Loading.{load_ring, loaded_nothing}
use Rattle.front.specs.Sweeps.{offset_rings}
use Rattle.front.specs.Finished.{for_each_ring}
use Rattle.offset.specs.Clear.{right_side, every_vertex}
use Rattle.offset.specs.Rings.{offset_piece}

-- 1e12
abbrev pub max_distance : Float
max_distance = of_bits binary64 0x426d1a94a2000000

-- questions 13 and 14
unfoldable pub check_distance : Float → Refusal
check_distance d = cond (finite d && le d max_distance) (cond (lt d zero_float) (Negative d) Granted) Far

-- ---- the pieces of an outline's offset: one at most, on the side from which it came

unfoldable pub pieces_refused : Refusal → Pieces
pieces_refused r = record { refusal = r; found = false; shape = no_outline }

-- inward the outline's own ring stays counter-clockwise; outward it was walked backwards
unfoldable pub expected : Bool → Float → Bool
expected outward signed = cond outward (lt signed zero_float) (lt zero_float signed)

unfoldable pub with_piece : Bool → Float → Walk → Pieces → Piece → Pieces
with_piece outward d w s Shrunk = s
with_piece outward d w s (Failed r) = pieces_refused r
with_piece outward d w s (Whole n back) =
    cond (expected outward (signed_area w.points w.count) && not s.found)
    (record { refusal = Granted; found = true; shape = stored_outline w.points n back })
    (pieces_refused (Splits d))

unfoldable pub visit_piece : Bool → Float → Float → ℕ → Walk → Pieces → Pieces
visit_piece outward d tolerance place w s = with_piece outward d w s (offset_piece 128 place d tolerance w)

unfoldable pub pieces_refusal : Pieces → Refusal
pieces_refusal s = s.refusal

unfoldable pub pieces : List Edge → PlanarPoint → Bool → Float → Float → Pieces
pieces f origin outward d tolerance =
    for_each_ring pieces_refusal (visit_piece outward d tolerance) f d origin
    (record { refusal = Granted; found = false; shape = no_outline })

-- ---- the piece that is left keeps clear of the source

unfoldable pub clear_of : Bool → Float → List Float → ℕ → PlanarPoint → Bool
clear_of outward least ps n p = right_side outward (ring_contains ps n p) && le least (nearest ps n p).gap

unfoldable pub keeps_clear : Bool → Float → List Float → ℕ → List Float → ℕ → Bool
keeps_clear outward least ps n qs m = every_vertex (clear_of outward least ps n) qs m

unfoldable pub offset_clear : Outline → Bool → Float → Float → Outline → NewOutline
offset_clear o outward d tolerance q =
    cond
    (keeps_clear outward (Number.sub d tolerance) o.points o.count q.points q.count &&
    not (rings_meet q.points q.count o.points o.count))
    (record { refusal = Granted; shape = q })
    (outline_refused (Splits d))

unfoldable pub offset_found : Outline → Bool → Float → Float → Pieces → NewOutline
offset_found o outward d tolerance p =
    cond (granted p.refusal)
    (cond p.found (offset_clear o outward d tolerance p.shape) (outline_refused (Collapses d)))
    (outline_refused p.refusal)

-- ---- inset and outset

unfoldable pub offset_finished : Outline → Bool → Float → Float → List Edge → NewOutline
offset_finished o outward d tolerance f =
    offset_found o outward d tolerance (pieces f (vertex_at o.points 0) outward d tolerance)

unfoldable pub offset_swept : Outline → Bool → Float → Sweep → NewOutline
offset_swept o outward d s =
    cond (granted s.refusal) (offset_finished o outward d (offset_tolerance d (extent o.points o.count)) s.edges)
    (outline_refused s.refusal)

-- an answer and the events that the sweep completed
unfoldable pub offset_counted : NewOutline → Sweep → Offset
offset_counted a s =
    record { refusal = a.refusal; shape = a.shape; collapses = s.collapses; divides = s.divides; joins = s.joins }

-- an answer without a sweep
unfoldable pub offset_plain : Refusal → Outline → Offset
offset_plain r o = record { refusal = r; shape = o; collapses = 0; divides = 0; joins = 0 }

-- the front's work for an outline: shape, side and distance
abbrev pub outline_load : Outline → Bool → Float → Loaded
outline_load o outward d = load_ring o.points o.count outward (vertex_at o.points 0) d loaded_nothing

unfoldable pub sweep : Outline → Bool → Float → Sweep
sweep o outward d = offset_rings d (outline_load o outward d)

unfoldable pub offset_from : Outline → Bool → Float → Sweep → Offset
offset_from o outward d s = offset_counted (offset_swept o outward d s) s

-- an offset by 0 or −0 gives the source itself
unfoldable pub offset_by : Outline → Bool → Float → Refusal → Offset
offset_by o outward d r =
    cond (granted r) (cond (eq d zero_float) (offset_plain Granted o) (offset_from o outward d (sweep o outward d)))
    (offset_plain r no_outline)

unfoldable pub offset : Outline → Bool → Float → Offset
offset o outward d =
    cond (proper 128 o.points o.count) (offset_by o outward d (check_distance d)) (offset_plain Shape no_outline)

unfoldable pub inset : Outline → Float → Offset
inset o d = offset o false d

unfoldable pub outset : Outline → Float → Offset
outset o d = offset o true d

-- opens every definition above, for a proof that computes with all of them
unfoldable pub open_offsets : Unit {0}
unfolding check_distance pieces_refused expected with_piece visit_piece pieces_refusal pieces clear_of keeps_clear offset_clear offset_found
    offset_finished offset_swept offset_counted offset_plain sweep offset_from offset_by offset inset outset
open_offsets = tt
