-- An inset that is accepted passes 21 again; one accepted at a distance above 0 is simple, ring by ring, and keeps clear of its source. Assumes nothing.
use Prim.Native.Nat.{ℕ, zero, suc, ◌+◌, ◌≤◌, ◌<◌}
use mathlib.Core.Path.{◌≡◌, refl, sym, ◌∙◌}
use mathlib.Core.Bool.{Bool, true, false, cond, not, ◌&&◌, ◌||◌, false≢true}
use mathlib.Core.List.{List}
use mathlib.Mathlib.Data.Bool.Basic.{and_elim_left, and_elim_right}
use native.Mathlib.Omega.{arith}
use borrow.Author.Tests.{ltb-true, not-true}
use lib.Dec.{ltb, eqb}
use lib.Ieee.{Float, le, eq}
use Rattle.ring_check.proofs.Sound.{Passed}
use Rattle.plane.specs.declared.PlanarPoint.{PlanarPoint}
use Rattle.error.specs.declared.Refusal.{Refusal}
use Rattle.error.specs.declared.Refusal.TheVariants.{Granted, Splits, Collapses, Shape, ManyPieces}
use Rattle.std.specs.Prelude.{None}
use Rattle.front.specs.declared.Edge.{Edge}
use Rattle.front.specs.declared.Walk.{Walk}
use Rattle.front.specs.declared.Sweep.{Sweep}
use Rattle.offset.specs.declared.Piece.{Piece}
use Rattle.offset.specs.declared.Piece.TheVariants.{Shrunk, Failed, Whole}
use Rattle.region.specs.declared.Region.{Region}
use Rattle.region.specs.declared.NewRegion.{NewRegion}
use Rattle.region.specs.declared.RegionPieces.{RegionPieces}
use Rattle.region.specs.declared.RegionOffset.{RegionOffset}
use Rattle.math.specs.Number
use Rattle.math.specs.Number.{zero_float}
use Rattle.error.specs.Refusals.{number, values, granted, region_failure}
use Rattle.error.proofs.Laws.{granted_is}
use Rattle.ring.specs.Ring.{vertex_at}
use Rattle.ring_cross.specs.Simple.{check_simple}
use Rattle.ring_cross.specs.Meet.{rings_meet}
use Rattle.outline.specs.Outlines.{stored_outline, offset_tolerance}
use Rattle.outline.proofs.Good.{GoodRing, good_ring, good_proper}
use Rattle.outline.proofs.Outlines.{outline_good}
use Rattle.offset.specs.Clear.{is_inside, every_vertex}
use Rattle.offset.specs.Rings.{offset_piece}
use Rattle.offset.specs.Offsets.{check_distance}
use Rattle.base.proofs.Tests.{none_pass, all_pass}
use Rattle.base.proofs.Choices.{by_test}
use Rattle.base.proofs.Choices.{both}
use Rattle.offset.proofs.Visits.{visits_keep}
use Rattle.offset.proofs.Passes.{PassedPiece, piece_sound}
use Rattle.offset.proofs.Accepted.{every_passes, none_meet, inside_is, above_zero}
use Rattle.region.specs.Regions.{no_region, ring_points, ring_count, with_outer, store_hole, region_contains, distance_to_boundary, region_extent}
use Rattle.region.specs.Checks.{check_region, proper_region, region_refused}
use Rattle.region.specs.Insets.{region_pieces_refused, is_outer, with_outer_piece, with_hole_piece, with_region_piece, visit_region_piece, region_pieces_refusal, region_pieces, clear_of_region, rings_clear_step, region_keeps_clear}
use Rattle.region.specs.Insets.{crosses_ring_step, crosses_ring, crosses_step, crosses, inset_clear, inset_checked, inset_found, inset_finished, inset_swept, region_counted, region_plain, region_sweep, inset_from, inset_by}
use Rattle.region.specs.Insets.{region_inset}
use Rattle.region.specs.Answers.{RegionKeptClear, InsetAccepted, InsetProper}
use Rattle.region.proofs.Holes.{GoodHoles, good_of_holes, no_holes, outer_holes, store_holes, region_proper, good_holes_proper}

-- ---- the pieces

record GoodPieces (p : RegionPieces) : Type 0 where
  outer : p.found ≡ true → GoodRing 128 p.shape.outer.points p.shape.outer.count
  few : p.shape.holes ≤ 8
  holes : GoodHoles (GoodRing 32) p.shape

refused_pieces : (u : Refusal) → GoodPieces (region_pieces_refused u)
unfolding region_pieces_refused no_region
refused_pieces u = record { outer = λ q. absurd (false≢true q); few = omega arith; holes = no_holes (GoodRing 32) }

module _ (d : Float) (w : Walk) (s : RegionPieces) (h : GoodPieces s) where
  outer_good : (n : ℕ) (back : Bool) → Passed 128 w.points w.count n back → GoodPieces (with_outer_piece d w s n back)
  unfolding with_outer_piece with_outer
  outer_good n back z =
      both GoodPieces s.found (refused_pieces (Splits d))
      (record {
        outer = λ q. outline_good w.points w.count n back z;
        few = h.few;
        holes = outer_holes (GoodRing 32) s.shape (stored_outline w.points n back) h.holes;
      })

  hole_good : (n : ℕ) (back : Bool) → Passed 32 w.points w.count n back → GoodPieces (with_hole_piece w s n back)
  unfolding with_hole_piece store_hole
  hole_good n back z =
      by_test GoodPieces (ltb s.shape.holes 8)
      (λ l. record {
        outer = h.outer;
        few = omega (arith, ltb-true s.shape.holes 8 l);
        holes = store_holes (GoodRing 32) good_of_holes s.shape w.points n back z.fits (λ qs e. good_ring 32 w.points w.count n back qs z e) h.holes (ltb-true s.shape.holes 8 l);
      })
      (λ l. refused_pieces (ManyPieces 9))

  with_good : (p : Piece) → PassedPiece (cond (is_outer w) 128 32) w p → GoodPieces (with_region_piece d w s p)
  unfolding with_region_piece
  with_good Shrunk z = h
  with_good (Failed u) z = refused_pieces u
  with_good (Whole n back) z =
      by_test GoodPieces (is_outer w) (λ e. outer_good n back (rw e at z)) (λ e. hole_good n back (rw e at z))

pieces_good : (f : List Edge) (origin : PlanarPoint) (d tolerance : Float) → GoodPieces (region_pieces f origin d tolerance)
unfolding region_pieces visit_region_piece no_region
pieces_good f origin d tolerance =
    visits_keep GoodPieces region_pieces_refusal (visit_region_piece d tolerance) f d origin (λ w. Unit {0}) (λ first seen. tt)
    (λ place w g s h.
    with_good d w s h (offset_piece (cond (is_outer w) 128 32) place d tolerance w) (piece_sound (cond (is_outer w) 128 32) place d tolerance w))
    (record { refusal = Granted; found = false; shape = no_region }) (record { outer = λ q. absurd (false≢true q); few = omega arith; holes = no_holes (GoodRing 32) })

-- ---- an inset that keeps clear

record Accepted (r : Region) (d : Float) (u : Refusal) (q : Region) : Type 0 where
  proper : granted u ≡ true → proper_region q ≡ true
  clear : granted u ≡ true → RegionKeptClear r d q

record AcceptedNew (r : Region) (d : Float) (a : NewRegion) : Type 0 where
  accepted : Accepted r d a.refusal a.shape

module _ (r : Region) (d : Float) where
  refused_accepted : (u : Refusal) → granted u ≡ false → AcceptedNew r d (region_refused u)
  unfolding region_refused
  refused_accepted u h = record { accepted = record { proper = λ q. absurd (false≢true (sym h ∙ q)); clear = λ q. absurd (false≢true (sym h ∙ q)) } }

  abbrev tolerance : Float
  tolerance = offset_tolerance d (region_extent r)

  abbrev least : Float
  least = Number.sub d tolerance

  module _ (q : Region) (outer : GoodRing 128 q.outer.points q.outer.count) (few : q.holes ≤ 8) (holes : GoodHoles (GoodRing 32) q) (checked : granted (check_region q) ≡ true)
      (a : region_keeps_clear least r q ≡ true) (b : crosses r q ≡ false) where
    rings_simple : (k : ℕ) → k ≤ q.holes → check_simple (ring_points q k) (ring_count q k) false ≡ None
    unfolding ring_points ring_count
    rings_simple zero l = outer.simple
    rings_simple (suc k) l = (holes.each k (omega arith) (omega arith)).simple

    vertex_clear : (k i : ℕ) → k ≤ q.holes → i < ring_count q k → clear_of_region least r (vertex_at (ring_points q k) i) ≡ true
    unfolding region_keeps_clear rings_clear_step
    vertex_clear k i l z =
        every_passes (clear_of_region least r) (ring_points q k) (ring_count q k)
        (all_pass (rings_clear_step least r q) (λ j. every_vertex (clear_of_region least r) (ring_points q j) (ring_count q j)) (λ j s. refl) (q.holes + 1) a k (omega arith)) i z

    rings_apart : (k l : ℕ) → k ≤ q.holes → l ≤ r.holes → rings_meet (ring_points q k) (ring_count q k) (ring_points r l) (ring_count r l) ≡ false
    unfolding crosses crosses_step crosses_ring crosses_ring_step
    rings_apart k l m n =
        none_pass (crosses_ring_step r (ring_points q k) (ring_count q k)) (λ j. rings_meet (ring_points q k) (ring_count q k) (ring_points r j) (ring_count r j)) (λ j s. refl) (r.holes + 1)
        (none_pass (crosses_step r q) (λ j. crosses_ring r (ring_points q j) (ring_count q j)) (λ j s. refl) (q.holes + 1) b k (omega arith)) l (omega arith)

    kept_clear : RegionKeptClear r d q
    unfolding clear_of_region offset_tolerance
    kept_clear = record {
      simple = rings_simple;
      region = granted_is (check_region q) checked;
      side = λ k i l z.
          let p : PlanarPoint = vertex_at (ring_points q k) i in
          inside_is (region_contains r p) (and_elim_left (is_inside (region_contains r p)) (le least (distance_to_boundary r p)) (vertex_clear k i l z));
      gap = λ k i l z.
          let p : PlanarPoint = vertex_at (ring_points q k) i in
          and_elim_right (is_inside (region_contains r p)) (le least (distance_to_boundary r p)) (vertex_clear k i l z);
      apart = λ k l i j m n. none_meet (ring_points q k) (ring_count q k) (ring_points r l) (ring_count r l) (rings_apart k l m n) i j;
    }

  failure_refused : (u : Refusal) → granted u ≡ false → granted (region_failure d u) ≡ false
  unfolding region_failure granted number values
  failure_refused u h = both (λ (v : Refusal). granted v ≡ false) (eqb (number u) 11 || eqb (number u) 12) refl h

  finished_accepted : (f : List Edge) → AcceptedNew r d (inset_finished r d tolerance f)
  unfolding inset_finished inset_found inset_checked inset_clear granted number values
  finished_accepted f =
      let p : RegionPieces = region_pieces f (vertex_at r.outer.points 0) d tolerance in
      let q : Region = p.shape in
      let g : GoodPieces p = pieces_good f (vertex_at r.outer.points 0) d tolerance in
      let a : Bool = region_keeps_clear least r q in
      let b : Bool = crosses r q in
      by_test (AcceptedNew r d) (granted p.refusal)
      (λ h. by_test (AcceptedNew r d) p.found
      (λ z. by_test (AcceptedNew r d) (granted (check_region q))
      (λ c. by_test (AcceptedNew r d) (a && not b)
      (λ e. record {
        accepted = record {
          proper = λ t. region_proper q (good_proper 128 q.outer.points q.outer.count (g.outer z)) g.few (good_holes_proper q g.holes);
          clear = λ t. kept_clear q (g.outer z) g.few g.holes c (and_elim_left a (not b) e) (not-true b (and_elim_right a (not b) e));
        };
      })
      (λ e. refused_accepted (Splits d) refl))
      (λ c. refused_accepted (region_failure d (check_region q)) (failure_refused (check_region q) c)))
      (λ z. refused_accepted (Collapses d) refl))
      (λ h. refused_accepted p.refusal h)

  swept_accepted : (s : Sweep) → AcceptedNew r d (inset_swept r d s)
  unfolding inset_swept
  swept_accepted s = by_test (AcceptedNew r d) (granted s.refusal) (λ h. finished_accepted s.edges) (λ h. refused_accepted s.refusal h)

-- ---- the answer

record AcceptedInset (r : Region) (d : Float) (a : RegionOffset) : Type 0 where
  proper : granted a.refusal ≡ true → proper_region a.shape ≡ true
  clear : granted a.refusal ≡ true → eq d zero_float ≡ false → RegionKeptClear r d a.shape

plain_accepted : (r : Region) (d : Float) (u : Refusal) → granted u ≡ false → AcceptedInset r d (region_plain u no_region)
unfolding region_plain
plain_accepted r d u h = record { proper = λ q. absurd (false≢true (sym h ∙ q)); clear = λ q. absurd (false≢true (sym h ∙ q)) }

from_accepts : (r : Region) (d : Float) (s : Sweep) → AcceptedInset r d (inset_from r d s)
unfolding inset_from region_counted
from_accepts r d s =
    let n : NewRegion = inset_swept r d s in
    let a : Accepted r d n.refusal n.shape = (swept_accepted r d s).accepted in
    record { proper = a.proper; clear = λ q e. a.clear q }

by_accepts : (r : Region) (d : Float) (u : Refusal) → proper_region r ≡ true → AcceptedInset r d (inset_by r d u)
unfolding inset_by region_plain
by_accepts r d u p =
    by_test (AcceptedInset r d) (granted u)
    (λ g. by_test (AcceptedInset r d) (eq d zero_float) (λ z. record { proper = λ q. p; clear = λ q e. absurd (false≢true (sym e ∙ z)) }) (λ z. from_accepts r d (region_sweep r d)))
    (λ g. plain_accepted r d u g)

inset_accepts : (r : Region) (d : Float) → AcceptedInset r d (region_inset r d)
unfolding region_inset granted number values
inset_accepts r d = by_test (AcceptedInset r d) (proper_region r) (λ p. by_accepts r d (check_distance d) p) (λ p. plain_accepted r d Shape refl)

pub inset_proper : InsetProper
inset_proper r d q = (inset_accepts r d).proper q

pub inset_accepted : InsetAccepted
inset_accepted r d q h = (inset_accepts r d).clear q (above_zero d h)
