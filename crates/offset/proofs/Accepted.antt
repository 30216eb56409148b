-- An outline and an offset that are accepted pass 21 again; an offset accepted at a distance above 0 is simple and keeps clear of its source. Assumes nothing.
use lib.Ieee
use Prim.Native.Nat.{ℕ, ◌*◌, ◌<◌}
use mathlib.Core.Path.{◌≡◌, refl, sym, ◌∙◌}
use mathlib.Core.Bool.{Bool, true, false, cond, not, ◌&&◌, false≢true}
use mathlib.Core.List.{List}
use mathlib.Mathlib.Data.Bool.Basic.{and_elim_left, and_elim_right}
use native.Mathlib.Omega.{arith}
use borrow.Author.Tests.{ltb-true, ne_eqb, not-true}
use lib.Ieee.{Float, nan, inf, fin, lt, le, eq, up, down}
use Rattle.plane.specs.declared.PlanarPoint.{PlanarPoint}
use Rattle.plane.specs.declared.Containment.{Containment}
use Rattle.plane.specs.declared.Containment.TheVariants.{Inside, OnBoundary, Outside}
use Rattle.error.specs.declared.Refusal.{Refusal}
use Rattle.error.specs.declared.Refusal.TheVariants.{Granted, Splits, Collapses, Shape}
use Rattle.outline.specs.declared.Outline.{Outline}
use Rattle.outline.specs.declared.NewOutline.{NewOutline}
use Rattle.front.specs.declared.Edge.{Edge}
use Rattle.front.specs.declared.Walk.{Walk}
use Rattle.front.specs.declared.Sweep.{Sweep}
use Rattle.offset.specs.declared.Piece.{Piece}
use Rattle.offset.specs.declared.Piece.TheVariants.{Shrunk, Failed, Whole}
use Rattle.offset.specs.declared.Pieces.{Pieces}
use Rattle.offset.specs.declared.Offset.{Offset}
use Rattle.math.specs.Number
use Rattle.math.specs.Number.{zero_float}
use Rattle.error.specs.Refusals.{number, values, granted}
use Rattle.segment.specs.Segments.{segments_meet}
use Rattle.ring.specs.Ring.{vertex_at, edge_end}
use Rattle.ring_measure.specs.Measures.{signed_area, extent}
use Rattle.ring_contain.specs.Contains.{ring_contains}
use Rattle.ring_near.specs.Near.{nearest}
use Rattle.ring_cross.specs.Meet.{meet_step, meets_edge, rings_meet_step, rings_meet}
use Rattle.outline.specs.Outlines.{proper, no_outline, outline_refused, offset_tolerance}
use Rattle.offset.specs.Clear.{is_inside, is_outside, right_side, every_step, every_vertex}
use Rattle.offset.specs.Rings.{offset_piece}
use Rattle.offset.specs.Offsets.{check_distance, pieces_refused, expected, with_piece, visit_piece, pieces_refusal, pieces, clear_of, keeps_clear, offset_clear, offset_found, offset_finished, offset_swept, offset_counted}
use Rattle.offset.specs.Offsets.{offset_plain, sweep, offset_from, offset_by, offset}
use Rattle.offset.specs.Answers.{KeptClear, OffsetAccepted, NewOutlineProper, OutlineProper, OffsetProper}
use Rattle.base.proofs.Tests.{none_pass, all_pass}
use Rattle.base.proofs.Choices.{by_test}
use Rattle.base.proofs.Choices.{both}
use Rattle.offset.proofs.Visits.{visits_keep}
use Rattle.offset.proofs.Passes.{PassedPiece, piece_sound}
use Rattle.outline.proofs.Outlines as outlines
use Rattle.outline.proofs.Good.{GoodRing, good_proper}
use Rattle.outline.proofs.Outlines.{outline_good}

-- ---- what the tests of a ring say of each vertex and each edge

pub every_passes : (test : PlanarPoint → Bool) (qs : List Float) (m : ℕ) → every_vertex test qs m ≡ true → (k : ℕ) → k < m → test (vertex_at qs k) ≡ true
unfolding every_vertex every_step
every_passes test qs m q = all_pass (every_step test qs) (λ k. test (vertex_at qs k)) (λ k s. refl) m q

pub none_meet : (ps : List Float) (n : ℕ) (qs : List Float) (m : ℕ) → rings_meet ps n qs m ≡ false
    → (i k : ℕ) → i < n → k < m → segments_meet (vertex_at ps i) (edge_end ps n i) (vertex_at qs k) (edge_end qs m k) ≡ false
unfolding rings_meet rings_meet_step meets_edge meet_step
none_meet ps n qs m q i k h l =
    let a : PlanarPoint = vertex_at ps i in
    let b : PlanarPoint = edge_end ps n i in
    none_pass (meet_step qs m a b) (λ j. segments_meet a b (vertex_at qs j) (edge_end qs m j)) (λ j s. refl) m
    (none_pass (rings_meet_step ps n qs m) (λ j. meets_edge qs m (vertex_at ps j) (edge_end ps n j)) (λ j s. refl) n q i h) k l

pub inside_is : (c : Containment) → is_inside c ≡ true → c ≡ Inside
unfolding is_inside
inside_is Inside q = refl
inside_is OnBoundary q = absurd (false≢true q)
inside_is Outside q = absurd (false≢true q)

side_is : (outward : Bool) (c : Containment) → right_side outward c ≡ true → c ≡ cond outward Outside Inside
unfolding right_side is_inside is_outside
side_is true Inside q = absurd (false≢true q)
side_is true OnBoundary q = absurd (false≢true q)
side_is true Outside q = refl
side_is false c q = inside_is c q

-- ---- an outline from numbers

pub new_outline_proper : NewOutlineProper
new_outline_proper = outlines.new_outline_proper

pub outline_proper : OutlineProper
outline_proper = outlines.outline_proper

-- ---- an offset

record GoodPieces (p : Pieces) : Type 0 where
  good : p.found ≡ true → GoodRing 128 p.shape.points p.shape.count

refused_pieces : (r : Refusal) → GoodPieces (pieces_refused r)
unfolding pieces_refused
refused_pieces r = record { good = λ q. absurd (false≢true q) }

with_good : (outward : Bool) (d : Float) (w : Walk) (s : Pieces) (p : Piece) → PassedPiece 128 w p → GoodPieces s → GoodPieces (with_piece outward d w s p)
unfolding with_piece
with_good outward d w s Shrunk z h = h
with_good outward d w s (Failed r) z h = refused_pieces r
with_good outward d w s (Whole n back) z h =
    both GoodPieces (expected outward (signed_area w.points w.count) && not s.found)
    (record { good = λ q. outline_good w.points w.count n back z }) (refused_pieces (Splits d))

pieces_good : (f : List Edge) (origin : PlanarPoint) (outward : Bool) (d tolerance : Float) → GoodPieces (pieces f origin outward d tolerance)
unfolding pieces visit_piece
pieces_good f origin outward d tolerance =
    visits_keep GoodPieces pieces_refusal (visit_piece outward d tolerance) f d origin (λ w. Unit {0}) (λ first seen. tt)
    (λ place w g s h. with_good outward d w s (offset_piece 128 place d tolerance w) (piece_sound 128 place d tolerance w) h)
    (record { refusal = Granted; found = false; shape = no_outline }) (record { good = λ q. absurd (false≢true q) })

-- the answer is accepted only where its shape is good and keeps clear
record Accepted (o : Outline) (outward : Bool) (d : Float) (r : Refusal) (q : Outline) : Type 0 where
  good : granted r ≡ true → GoodRing 128 q.points q.count
  clear : granted r ≡ true → KeptClear o outward d q

record AcceptedNew (o : Outline) (outward : Bool) (d : Float) (a : NewOutline) : Type 0 where
  accepted : Accepted o outward d a.refusal a.shape

module _ (o : Outline) (outward : Bool) (d : Float) where
  refused_accepted : (r : Refusal) → granted r ≡ false → AcceptedNew o outward d (outline_refused r)
  unfolding outline_refused
  refused_accepted r h = record { accepted = record { good = λ q. absurd (false≢true (sym h ∙ q)); clear = λ q. absurd (false≢true (sym h ∙ q)) } }

  abbrev tolerance : Float
  tolerance = offset_tolerance d (extent o.points o.count)

  kept_clear : (q : Outline) → GoodRing 128 q.points q.count
      → keeps_clear outward (Number.sub d tolerance) o.points o.count q.points q.count ≡ true
      → rings_meet q.points q.count o.points o.count ≡ false → KeptClear o outward d q
  unfolding keeps_clear clear_of offset_tolerance
  kept_clear q g a b =
      let least : Float = Number.sub d tolerance in
      let each : (k : ℕ) → k < q.count → clear_of outward least o.points o.count (vertex_at q.points k) ≡ true =
      every_passes (clear_of outward least o.points o.count) q.points q.count a in
      record {
        simple = g.simple;
        side = λ k l. side_is outward (ring_contains o.points o.count (vertex_at q.points k))
            (and_elim_left (right_side outward (ring_contains o.points o.count (vertex_at q.points k))) (le least (nearest o.points o.count (vertex_at q.points k)).gap) (each k l));
        gap = λ k l. and_elim_right (right_side outward (ring_contains o.points o.count (vertex_at q.points k))) (le least (nearest o.points o.count (vertex_at q.points k)).gap) (each k l);
        apart = none_meet q.points q.count o.points o.count b;
      }

  finished_accepted : (f : List Edge) → AcceptedNew o outward d (offset_finished o outward d tolerance f)
  unfolding offset_finished offset_found offset_clear granted number values
  finished_accepted f =
      let p : Pieces = pieces f (vertex_at o.points 0) outward d tolerance in
      let q : Outline = p.shape in
      let a : Bool = keeps_clear outward (Number.sub d tolerance) o.points o.count q.points q.count in
      let b : Bool = rings_meet q.points q.count o.points o.count in
      by_test (AcceptedNew o outward d) (granted p.refusal)
      (λ h. by_test (AcceptedNew o outward d) p.found
      (λ z.
      let g : GoodRing 128 q.points q.count = (pieces_good f (vertex_at o.points 0) outward d tolerance).good z in
      by_test (AcceptedNew o outward d) (a && not b)
      (λ e. record { accepted = record { good = λ t. g; clear = λ t. kept_clear q g (and_elim_left a (not b) e) (not-true b (and_elim_right a (not b) e)) } })
      (λ e. refused_accepted (Splits d) refl))
      (λ z. refused_accepted (Collapses d) refl))
      (λ h. refused_accepted p.refusal h)

  swept_accepted : (s : Sweep) → AcceptedNew o outward d (offset_swept o outward d s)
  unfolding offset_swept
  swept_accepted s = by_test (AcceptedNew o outward d) (granted s.refusal) (λ h. finished_accepted s.edges) (λ h. refused_accepted s.refusal h)

record AcceptedOffset (o : Outline) (outward : Bool) (d : Float) (a : Offset) : Type 0 where
  proper : granted a.refusal ≡ true → proper 128 a.shape.points a.shape.count ≡ true
  clear : granted a.refusal ≡ true → eq d zero_float ≡ false → KeptClear o outward d a.shape

plain_accepted : (o : Outline) (outward : Bool) (d : Float) (r : Refusal) → granted r ≡ false → AcceptedOffset o outward d (offset_plain r no_outline)
unfolding offset_plain
plain_accepted o outward d r h = record { proper = λ q. absurd (false≢true (sym h ∙ q)); clear = λ q. absurd (false≢true (sym h ∙ q)) }

from_accepts : (o : Outline) (outward : Bool) (d : Float) (s : Sweep) → AcceptedOffset o outward d (offset_from o outward d s)
unfolding offset_from offset_counted
from_accepts o outward d s =
    let n : NewOutline = offset_swept o outward d s in
    let a : Accepted o outward d n.refusal n.shape = (swept_accepted o outward d s).accepted in
    record { proper = λ q. good_proper 128 n.shape.points n.shape.count (a.good q); clear = λ q e. a.clear q }

by_accepts : (o : Outline) (outward : Bool) (d : Float) (r : Refusal) → proper 128 o.points o.count ≡ true → AcceptedOffset o outward d (offset_by o outward d r)
unfolding offset_by offset_plain
by_accepts o outward d r p =
    by_test (AcceptedOffset o outward d) (granted r)
    (λ g. by_test (AcceptedOffset o outward d) (eq d zero_float) (λ z. record { proper = λ q. p; clear = λ q e. absurd (false≢true (sym e ∙ z)) })
    (λ z. from_accepts o outward d (sweep o outward d)))
    (λ g. plain_accepted o outward d r g)

offset_accepts : (o : Outline) (outward : Bool) (d : Float) → AcceptedOffset o outward d (offset o outward d)
unfolding offset granted number values
offset_accepts o outward d =
    by_test (AcceptedOffset o outward d) (proper 128 o.points o.count) (λ p. by_accepts o outward d (check_distance d) p) (λ p. plain_accepted o outward d Shape refl)

pub offset_proper : OffsetProper
offset_proper o outward d q = (offset_accepts o outward d).proper q

-- a distance above 0 is not 0
pub above_zero : (d : Float) → lt zero_float d ≡ true → eq d zero_float ≡ false
unfolding lt eq lib.Ieee.of_bits
above_zero nan q = refl
above_zero (inf s) q = refl
above_zero (fin true m e) q = absurd (false≢true q)
above_zero (fin false m e) q = rw (ne_eqb (m * up e * 1) (0 * down e) (λ h. omega (arith, ltb-true (0 * down e) (m * up e * 1) q))) refl

pub offset_accepted : OffsetAccepted
offset_accepted o outward d q h = (offset_accepts o outward d).clear q (above_zero d h)
