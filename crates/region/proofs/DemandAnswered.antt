-- Demand 3 of what a region's inset answers, the empty shape beside a refusal, and the answers before the front is loaded. Assumes nothing.
use Prim.Native.Nat.{ℕ, suc, ◌+◌, ◌-◌, ◌%◌}
use mathlib.Core.Path.{◌≡◌, refl, sym, ◌∙◌}
use mathlib.Core.Bool.{true, false, cond, not, ◌&&◌, ◌||◌, false≢true}
use mathlib.Core.List.{List}
use native.Mathlib.Omega.{arith}
use lib.Dec.{leb, ltb, eqb}
use lib.ListN.{length}
use lib.Ieee.{Float, eq}
use Rattle.plane.specs.declared.PlanarPoint.{PlanarPoint}
use Rattle.error.specs.declared.Refusal.{Refusal}
use Rattle.error.specs.declared.Refusal.TheVariants.{Granted, Splits, Collapses, Shape, Odd, Lengths, ManyPieces}
use Rattle.outline.specs.declared.Outline.{Outline}
use Rattle.front.specs.declared.Edge.{Edge}
use Rattle.front.specs.declared.Walk.{Walk}
use Rattle.front.specs.declared.Sweep.{Sweep}
use Rattle.front.specs.declared.Loaded.{Loaded}
use Rattle.offset.specs.declared.Piece.{Piece}
use Rattle.offset.specs.declared.Piece.TheVariants.{Shrunk, Failed, Whole}
use Rattle.region.specs.declared.Region.{Region}
use Rattle.region.specs.declared.NewRegion.{NewRegion}
use Rattle.region.specs.declared.RegionLoad.{RegionLoad}
use Rattle.region.specs.declared.RegionPieces.{RegionPieces}
use Rattle.region.specs.declared.RegionOffset.{RegionOffset}
use Rattle.math.specs.Number
use Rattle.math.specs.Number.{finite, zero_float}
use Rattle.error.specs.Refusals.{number, values, granted, region_failure}
use Rattle.base.specs.Loop.{rounds}
use Rattle.base.proofs.Laws.{rounds_keep}
use Rattle.base.proofs.Choices.{by_test}
use Rattle.base.proofs.Choices.{both}
use Rattle.ring.specs.Ring.{vertex_at}
use Rattle.outline.specs.Outlines.{proper, offset_tolerance, check_finite}
use Rattle.front.specs.Sweeps.{sweep_from, offset_rings}
use Rattle.front.specs.Demand.{givens, Demand}
use Rattle.offset.specs.Offsets.{check_distance}
use Rattle.offset.specs.Rings.{offset_piece}
use Rattle.offset.specs.Answers.{AnswerDemand}
use Rattle.offset.proofs.Other.{Other, granted_other, splits_other, collapses_other, OtherPiece, piece_other}
use Rattle.offset.proofs.Visits.{visits_keep}
use Rattle.offset.proofs.Carried.{sweep_carried, sweep_unloaded}
use Rattle.offset.proofs.DemandAnswered.{Own, other_own, self_own, answer_demand, plain_demand, distance_other, distance_finite, zero_granted, no_outline_empty}
use Rattle.region.specs.Regions.{no_region, hole_points, hole_count, region_extent}
use Rattle.region.specs.Checks.{hole_free, hole_step, check_holes, holes_touch, second_step, first_step, check_apart, then_apart, check_region, region_refused, region_if, load_rings, region_loaded, lengths_fit, region_finite}
use Rattle.region.specs.Checks.{region, proper_region, proper_given, given_rings, region_given, without_holes}
use Rattle.region.specs.Insets.{region_pieces_refused, is_outer, with_outer_piece, with_hole_piece, with_region_piece, visit_region_piece, region_pieces_refusal, region_pieces, region_keeps_clear, crosses, inset_clear}
use Rattle.region.specs.Insets.{inset_checked, inset_found, inset_finished, inset_swept, region_counted, region_plain, load_region, region_sweep, inset_from, inset_by, region_inset}
use Rattle.region.specs.Demand.{edges_of}
use Rattle.region.specs.Answers.{InsetDemand, EmptyRegion, EmptyNewRegion, RegionEmpty, InsetEmpty, InsetBefore}
use Rattle.region.proofs.Demand.{enough, region_load_other, region_demand}

-- ---- 10 to 12 are not 18

holes_other : (r : Region) → Other (check_holes r)
unfolding check_holes hole_step number values
holes_other r =
    rounds_keep (hole_step r) (λ k u. Other u) Granted granted_other
    (λ k u h. both Other (granted u)
    (both Other (hole_free r.outer.points r.outer.count (hole_points r k) (hole_count r k)) granted_other (record { no = λ q. omega arith })) h)
    r.holes

second_other : (r : Region) (first n : ℕ) → Other (rounds (second_step r first) n Granted)
unfolding second_step number values
second_other r first n =
    rounds_keep (second_step r first) (λ k u. Other u) Granted granted_other
    (λ k u h. both Other (granted u)
    (both Other (holes_touch (hole_points r first) (hole_count r first) (hole_points r (first + 1 + k)) (hole_count r (first + 1 + k))) (record { no = λ q. omega arith }) granted_other) h)
    n

apart_other : (r : Region) → Other (check_apart r)
unfolding check_apart first_step
apart_other r =
    rounds_keep (first_step r) (λ k u. Other u) Granted granted_other (λ k u h. both Other (granted u) (second_other r k (r.holes - (k + 1))) h) r.holes

region_other : (r : Region) → Other (check_region r)
unfolding check_region then_apart number values
region_other r =
    both Other (leb r.holes 8) (both Other (granted (check_holes r)) (apart_other r) (holes_other r)) (record { no = λ q. omega arith })

failure_other : (d : Float) (u : Refusal) → Other u → Other (region_failure d u)
unfolding region_failure
failure_other d u h = both Other (eqb (number u) 11 || eqb (number u) 12) (splits_other d) h

-- ---- the pieces

record OtherPieces (p : RegionPieces) : Type 0 where
  other : Other p.refusal

refused_pieces : (u : Refusal) → Other u → OtherPieces (region_pieces_refused u)
unfolding region_pieces_refused
refused_pieces u h = record { other = h }

with_other : (d : Float) (w : Walk) (s : RegionPieces) (p : Piece) → OtherPieces s → OtherPiece p → OtherPieces (with_region_piece d w s p)
unfolding with_region_piece with_outer_piece with_hole_piece number values
with_other d w s Shrunk h z = h
with_other d w s (Failed r) h z = refused_pieces r z
with_other d w s (Whole n back) h z =
    both OtherPieces (is_outer w)
    (both OtherPieces s.found (refused_pieces (Splits d) (splits_other d)) (record { other = granted_other }))
    (both OtherPieces (ltb s.shape.holes 8) (record { other = granted_other }) (refused_pieces (ManyPieces 9) (record { no = λ q. omega arith })))

pieces_other : (f : List Edge) (origin : PlanarPoint) (d tolerance : Float) → OtherPieces (region_pieces f origin d tolerance)
unfolding region_pieces visit_region_piece
pieces_other f origin d tolerance =
    visits_keep OtherPieces region_pieces_refusal (visit_region_piece d tolerance) f d origin (λ w. Unit {0}) (λ first seen. tt)
    (λ place w q s h.
    with_other d w s (offset_piece (cond (is_outer w) 128 32) place d tolerance w) h (piece_other (cond (is_outer w) 128 32) place d tolerance w))
    (record { refusal = Granted; found = false; shape = no_region }) (record { other = granted_other })

-- ---- the answer

record OwnRegion (u : Refusal) (a : NewRegion) : Type 0 where
  owned : Own u a.refusal

module _ (r : Region) (d : Float) (s : Sweep) where
  abbrev u : Refusal
  u = s.refusal

  refused_own : (v : Refusal) → Own u v → OwnRegion u (region_refused v)
  unfolding region_refused
  refused_own v h = record { owned = h }

  other_refused : (v : Refusal) → Other v → OwnRegion u (region_refused v)
  other_refused v h = refused_own v (other_own u v h)

  finished_own : (tolerance : Float) (f : List Edge) → OwnRegion u (inset_finished r d tolerance f)
  unfolding inset_finished inset_found inset_checked inset_clear
  finished_own tolerance f =
      let p : RegionPieces = region_pieces f (vertex_at r.outer.points 0) d tolerance in
      let q : Region = p.shape in
      both (OwnRegion u) (granted p.refusal)
      (both (OwnRegion u) p.found
      (both (OwnRegion u) (granted (check_region q))
      (both (OwnRegion u) (region_keeps_clear (Number.sub d tolerance) r q && not (crosses r q)) (record { owned = other_own u Granted granted_other }) (other_refused (Splits d) (splits_other d)))
      (other_refused (region_failure d (check_region q)) (failure_other d (check_region q) (region_other q))))
      (other_refused (Collapses d) (collapses_other d)))
      (other_refused p.refusal (pieces_other f (vertex_at r.outer.points 0) d tolerance).other)

  swept_own : OwnRegion u (inset_swept r d s)
  unfolding inset_swept
  swept_own = both (OwnRegion u) (granted s.refusal) (finished_own (offset_tolerance d (region_extent r)) s.edges) (refused_own u (self_own u))

record Told (n r : ℕ) (a : RegionOffset) : Type 0 where
  told : AnswerDemand n r a.refusal a.collapses a.divides a.joins

module _ (r : Region) (d : Float) (q : proper_region r ≡ true) where
  abbrev n : ℕ
  n = edges_of r r.holes

  abbrev m : ℕ
  m = suc r.holes

  abbrev load : Loaded
  load = load_region r (vertex_at r.outer.points 0) d

  plain_told : (u : Refusal) (p : Region) → Other u → Told n m (region_plain u p)
  unfolding region_plain
  plain_told u p z = record { told = plain_demand n m u (enough r d q) z }

  from_told : finite d ≡ true → Told n m (inset_from r d (offset_rings d load))
  unfolding inset_from region_counted
  from_told near =
      let s : Sweep = offset_rings d load in
      let D : Demand n m (givens d load) load = region_demand r d q near in
      record {
        told = answer_demand n m s.refusal (inset_swept r d s).refusal s.collapses s.divides s.joins D.counts D.most D.unfinished
            (sweep_carried d load (record { no = region_load_other r d q })) (swept_own r d s).owned;
      }

  by_told : Told n m (inset_by r d (check_distance d))
  unfolding inset_by region_sweep
  by_told =
      by_test (Told n m) (granted (check_distance d))
      (λ z. both (Told n m) (eq d zero_float) (plain_told Granted r granted_other) (from_told (distance_finite d z)))
      (λ z. plain_told (check_distance d) no_region (distance_other d))

  whole_told : Told n m (region_inset r d)
  unfolding region_inset
  whole_told = by_test (Told n m) (proper_region r) (λ e. by_told) (λ e. absurd (false≢true (sym e ∙ q)))

pub inset_demand : InsetDemand
inset_demand r d q = (whole_told r d q).told

-- ---- the shape beside a refusal

no_region_empty : EmptyRegion no_region
unfolding no_region
no_region_empty = record { outer = no_outline_empty; numbers = refl; counts = refl; holes = refl }

refused_empty : (u : Refusal) → EmptyNewRegion (region_refused u)
unfolding region_refused
refused_empty u = record { empty = λ q. no_region_empty }

granted_empty : (r : Region) → EmptyNewRegion (record { refusal = Granted; shape = r })
unfolding granted number values
granted_empty r = record { empty = λ q. absurd (false≢true (sym q)) }

if_empty : (r : Region) (u : Refusal) → EmptyNewRegion (region_if r u)
unfolding region_if
if_empty r u = both EmptyNewRegion (granted u) (granted_empty r) (refused_empty u)

loaded_empty : (lengths : List ℕ) (ps : List Float) → EmptyNewRegion (region lengths ps)
unfolding region region_finite region_loaded
loaded_empty lengths ps =
    let s : RegionLoad = load_rings lengths ps in
    both EmptyNewRegion (eqb (length ps % 2) 0)
    (both EmptyNewRegion (granted (check_finite ps))
    (both EmptyNewRegion (lengths_fit lengths ps)
    (both EmptyNewRegion (granted s.refusal) (if_empty s.shape (check_region s.shape)) (refused_empty s.refusal))
    (refused_empty Lengths))
    (refused_empty (check_finite ps)))
    (refused_empty Odd)

given_empty : (o : Outline) (hs : List Outline) → EmptyNewRegion (region_given o hs)
unfolding region_given
given_empty o hs = both EmptyNewRegion (proper_given o hs) (if_empty (given_rings o hs) (check_region (given_rings o hs))) (refused_empty Shape)

alone_empty : (o : Outline) → EmptyNewRegion (without_holes o)
unfolding without_holes
alone_empty o = both EmptyNewRegion (proper 128 o.points o.count) (granted_empty _) (refused_empty Shape)

pub region_empty : RegionEmpty
region_empty = record { loaded = loaded_empty; given = given_empty; alone = alone_empty }

found_empty : (r : Region) (d tolerance : Float) (p : RegionPieces) → EmptyNewRegion (inset_found r d tolerance p)
unfolding inset_found inset_checked inset_clear
found_empty r d tolerance p =
    let q : Region = p.shape in
    both EmptyNewRegion (granted p.refusal)
    (both EmptyNewRegion p.found
    (both EmptyNewRegion (granted (check_region q))
    (both EmptyNewRegion (region_keeps_clear (Number.sub d tolerance) r q && not (crosses r q)) (granted_empty q) (refused_empty (Splits d)))
    (refused_empty (region_failure d (check_region q))))
    (refused_empty (Collapses d)))
    (refused_empty p.refusal)

swept_empty : (r : Region) (d : Float) (s : Sweep) → EmptyNewRegion (inset_swept r d s)
unfolding inset_swept inset_finished
swept_empty r d s =
    let t : Float = offset_tolerance d (region_extent r) in
    both EmptyNewRegion (granted s.refusal) (found_empty r d t (region_pieces s.edges (vertex_at r.outer.points 0) d t)) (refused_empty s.refusal)

record EmptyInset (a : RegionOffset) : Type 0 where
  empty : granted a.refusal ≡ false → EmptyRegion a.shape

plain_empty : (u : Refusal) → EmptyInset (region_plain u no_region)
unfolding region_plain
plain_empty u = record { empty = λ q. no_region_empty }

by_empty : (r : Region) (d : Float) (u : Refusal) → EmptyInset (inset_by r d u)
unfolding inset_by inset_from region_counted region_plain
by_empty r d u =
    both EmptyInset (granted u)
    (both EmptyInset (eq d zero_float) (record { empty = (granted_empty r).empty }) (record { empty = (swept_empty r d (region_sweep r d)).empty }))
    (plain_empty u)

inset_empty_of : (r : Region) (d : Float) → EmptyInset (region_inset r d)
unfolding region_inset
inset_empty_of r d = both EmptyInset (proper_region r) (by_empty r d (check_distance d)) (plain_empty Shape)

pub inset_empty : InsetEmpty
inset_empty r d = (inset_empty_of r d).empty

-- ---- before the front is loaded

module _ (r : Region) (d : Float) where
  improper_plain : proper_region r ≡ false → region_inset r d ≡ region_plain Shape no_region
  unfolding region_inset
  improper_plain h = rw h refl

  refused_plain : proper_region r ≡ true → granted (check_distance d) ≡ false → region_inset r d ≡ region_plain (check_distance d) no_region
  unfolding region_inset inset_by
  refused_plain h k = rw (h, k) refl

  unmoved_plain : proper_region r ≡ true → eq d zero_float ≡ true → region_inset r d ≡ region_plain Granted r
  unfolding region_inset inset_by
  unmoved_plain h k = rw (h, zero_granted d k, k) refl

  loading_plain : proper_region r ≡ true → granted (check_distance d) ≡ true → eq d zero_float ≡ false → granted (load_region r (vertex_at r.outer.points 0) d).refusal ≡ false
      → region_inset r d ≡ region_plain (load_region r (vertex_at r.outer.points 0) d).refusal no_region
  unfolding region_inset inset_by inset_from region_counted inset_swept region_plain region_refused region_sweep sweep_from
  loading_plain h k z l = rw (h, k, z, sweep_unloaded d (load_region r (vertex_at r.outer.points 0) d) l, l) refl

pub inset_before : InsetBefore
inset_before r d = record { improper = improper_plain r d; refused = refused_plain r d; unmoved = unmoved_plain r d; loading = loading_plain r d }
