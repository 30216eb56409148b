-- Demand 3 of what an outline's offset answers, the empty shape beside a refusal, and the answers before the front is loaded. Assumes nothing.
use lib.Ieee
use Prim.Native.Nat.{ℕ, ◌+◌, ◌*◌, ◌/◌, ◌%◌, ◌≤◌}
use mathlib.Core.Path.{◌≡◌, refl, sym, ap, ◌∙◌}
use mathlib.Core.Bool.{Bool, true, false, not, ◌&&◌, ◌||◌, beq, false≢true}
use mathlib.Core.List.{List}
use mathlib.Mathlib.Data.Bool.Basic.{and_elim_left}
use native.Mathlib.Omega.{arith}
use lib.Dec.{ltb, eqb}
use lib.ListN.{length}
use lib.Ieee.{Float, nan, inf, fin, lt, le, eq, up, down}
use borrow.Author.Tests.{eqb-true, lt-ltb, le-ltb}
use Rattle.base.proofs.Choices.{by_test}
use Rattle.base.proofs.Choices.{both}
use Rattle.plane.specs.declared.PlanarPoint.{PlanarPoint}
use Rattle.error.specs.declared.Refusal.{Refusal}
use Rattle.error.specs.declared.Refusal.TheVariants.{Granted, Splits, Collapses, Shape, Odd}
use Rattle.outline.specs.declared.Outline.{Outline}
use Rattle.outline.specs.declared.NewOutline.{NewOutline}
use Rattle.ring_check.specs.declared.Checked.{Checked}
use Rattle.front.specs.declared.Edge.{Edge}
use Rattle.front.specs.declared.Walk.{Walk}
use Rattle.front.specs.declared.Sweep.{Sweep}
use Rattle.front.specs.declared.Loaded.{Loaded}
use Rattle.offset.specs.declared.Piece.{Piece}
use Rattle.offset.specs.declared.Piece.TheVariants.{Shrunk, Failed, Whole}
use Rattle.offset.specs.declared.Pieces.{Pieces}
use Rattle.offset.specs.declared.Offset.{Offset}
use Rattle.math.specs.Number
use Rattle.math.specs.Number.{finite, zero_float}
use Rattle.error.specs.Refusals.{number, values, granted}
use Rattle.ring.specs.Ring.{vertex_at}
use Rattle.ring_measure.specs.Measures.{signed_area, extent}
use Rattle.ring_cross.specs.Meet.{rings_meet}
use Rattle.ring_check.specs.Checks.{check_door}
use Rattle.outline.specs.Outlines.{proper, no_outline, stored_outline, outline_refused, outline_of, outline_if, new_outline, outline, offset_tolerance, check_finite}
use Rattle.front.specs.Sweeps.{sweep_from, offset_rings}
use Rattle.front.specs.Demand.{givens, Demand}
use Rattle.front.specs.Loading.{outer}
use Rattle.front.proofs.Demand.Whole.{loads_other}
use lib.Ieee.Fits.{down_pos}
use Rattle.front.proofs.Demand.Shapes.{proper_is}
use Rattle.offset.specs.Offsets.{max_distance, check_distance, pieces_refused, expected, with_piece, visit_piece, pieces_refusal, pieces, keeps_clear, offset_clear, offset_found, offset_finished, offset_swept, offset_counted}
use Rattle.offset.specs.Offsets.{offset_plain, outline_load, sweep, offset_from, offset_by, offset}
use Rattle.offset.specs.Rings.{offset_piece}
use Rattle.offset.specs.Answers.{AnswerDemand, OffsetDemand, EmptyOutline, OutlineEmpty, OffsetEmpty, OffsetBefore}
use Rattle.offset.proofs.Other.{Other, granted_other, splits_other, collapses_other, OtherPiece, piece_other}
use Rattle.offset.proofs.Visits.{visits_keep}
use Rattle.offset.proofs.Carried.{Carried, sweep_carried, sweep_unloaded}
use Rattle.offset.proofs.Demand.{outline_demand}

-- ---- 13 and 14

pub distance_other : (d : Float) → Other (check_distance d)
unfolding check_distance number values
distance_other d = both Other (finite d && le d max_distance) (both Other (lt d zero_float) (record { no = λ q. omega arith }) granted_other) (record { no = λ q. omega arith })

record Finite (d : Float) (u : Refusal) : Type 0 where
  is : granted u ≡ true → finite d ≡ true

pub distance_finite : (d : Float) → granted (check_distance d) ≡ true → finite d ≡ true
unfolding check_distance granted number values
distance_finite d = go.is
  where
    go : Finite d (check_distance d)
    go = by_test (Finite d) (finite d && le d max_distance)
        (λ h. record { is = λ q. and_elim_left (finite d) (le d max_distance) h })
        (λ h. record { is = λ q. absurd (false≢true q) })

-- ---- an answer that is refused by 18 has the refusal u of its sweep

pub record Own (u v : Refusal) : Type 0 where
  pub own : number v ≡ 18 → v ≡ u

pub other_own : (u v : Refusal) → Other v → Own u v
other_own u v h = record { own = λ q. absurd (h.no q) }

pub self_own : (u : Refusal) → Own u u
self_own u = record { own = λ q. refl }

-- demand 3 passes from the sweep to the answer
pub answer_demand : (n r : ℕ) (u v : Refusal) (c e j : ℕ) → c + e + 2 * r ≤ n + 3 * j → c + e + j ≤ 387 → (number u ≡ 18 → 387 + 2 * r ≤ n + 4 * j) → Carried u → Own u v
    → AnswerDemand n r v c e j
answer_demand n r u v c e j a b h k o = record {
  counts = a;
  most = b;
  unfinished = λ q. h (sym (ap number (o.own q)) ∙ q);
  carried = λ q. ap (λ (x : Refusal). (values x).wholes) (o.own q) ∙ k.carried (sym (ap number (o.own q)) ∙ q);
}

pub plain_demand : (n r : ℕ) (u : Refusal) → 2 * r ≤ n → Other u → AnswerDemand n r u 0 0 0
plain_demand n r u h z = record { counts = omega (arith, h); most = omega arith; unfinished = λ q. absurd (z.no q); carried = λ q. absurd (z.no q) }

-- ---- the pieces

record OtherPieces (p : Pieces) : Type 0 where
  other : Other p.refusal

with_other : (outward : Bool) (d : Float) (w : Walk) (s : Pieces) (p : Piece) → OtherPieces s → OtherPiece p → OtherPieces (with_piece outward d w s p)
unfolding with_piece pieces_refused
with_other outward d w s Shrunk h z = h
with_other outward d w s (Failed r) h z = record { other = z }
with_other outward d w s (Whole n back) h z =
    both OtherPieces (expected outward (signed_area w.points w.count) && not s.found) (record { other = granted_other }) (record { other = splits_other d })

pieces_other : (f : List Edge) (origin : PlanarPoint) (outward : Bool) (d tolerance : Float) → OtherPieces (pieces f origin outward d tolerance)
unfolding pieces visit_piece
pieces_other f origin outward d tolerance =
    visits_keep OtherPieces pieces_refusal (visit_piece outward d tolerance) f d origin (λ w. Unit {0}) (λ first seen. tt)
    (λ place w q s h. with_other outward d w s (offset_piece 128 place d tolerance w) h (piece_other 128 place d tolerance w))
    (record { refusal = Granted; found = false; shape = no_outline }) (record { other = granted_other })

-- ---- the answer

record OwnOutline (u : Refusal) (a : NewOutline) : Type 0 where
  owned : Own u a.refusal

module _ (o : Outline) (outward : Bool) (d : Float) (s : Sweep) where
  abbrev u : Refusal
  u = s.refusal

  refused_own : (v : Refusal) → Own u v → OwnOutline u (outline_refused v)
  unfolding outline_refused
  refused_own v h = record { owned = h }

  finished_own : (tolerance : Float) (f : List Edge) → OwnOutline u (offset_finished o outward d tolerance f)
  unfolding offset_finished offset_found offset_clear
  finished_own tolerance f =
      let p : Pieces = pieces f (vertex_at o.points 0) outward d tolerance in
      let q : Outline = p.shape in
      both (OwnOutline u) (granted p.refusal)
      (both (OwnOutline u) p.found
      (both (OwnOutline u)
      (keeps_clear outward (Number.sub d tolerance) o.points o.count q.points q.count && not (rings_meet q.points q.count o.points o.count))
      (record { owned = other_own u Granted granted_other }) (refused_own (Splits d) (other_own u (Splits d) (splits_other d))))
      (refused_own (Collapses d) (other_own u (Collapses d) (collapses_other d))))
      (refused_own p.refusal (other_own u p.refusal (pieces_other f (vertex_at o.points 0) outward d tolerance).other))

  swept_own : OwnOutline u (offset_swept o outward d s)
  unfolding offset_swept
  swept_own =
      both (OwnOutline u) (granted s.refusal) (finished_own (offset_tolerance d (extent o.points o.count)) s.edges) (refused_own u (self_own u))

record Told (n : ℕ) (a : Offset) : Type 0 where
  told : AnswerDemand n 1 a.refusal a.collapses a.divides a.joins

plain_told : (n : ℕ) (u : Refusal) (o : Outline) → 3 ≤ n → Other u → Told n (offset_plain u o)
unfolding offset_plain
plain_told n u o h z = record { told = plain_demand n 1 u (omega arith) z }

module _ (o : Outline) (outward : Bool) (d : Float) (q : proper 128 o.points o.count ≡ true) where
  abbrev load : Loaded
  load = outline_load o outward d

  load_not_18 : Other load.refusal
  load_not_18 = record { no = loads_other d (vertex_at o.points 0) o.count 1 load (outer o.points o.count outward q) }

  from_told : finite d ≡ true → Told o.count (offset_from o outward d (offset_rings d load))
  unfolding offset_from offset_counted
  from_told near =
      let s : Sweep = offset_rings d load in
      let D : Demand o.count 1 (givens d load) load = outline_demand o outward d q near in
      record {
        told = answer_demand o.count 1 s.refusal (offset_swept o outward d s).refusal s.collapses s.divides s.joins D.counts D.most D.unfinished
            (sweep_carried d load load_not_18) (swept_own o outward d s).owned;
      }

  by_told : Told o.count (offset_by o outward d (check_distance d))
  unfolding offset_by sweep
  by_told =
      let p : 3 ≤ o.count = (proper_is 128 o.points o.count q).three in
      by_test (Told o.count) (granted (check_distance d))
      (λ z. both (Told o.count) (eq d zero_float) (plain_told o.count Granted o p granted_other) (from_told (distance_finite d z)))
      (λ z. plain_told o.count (check_distance d) no_outline p (distance_other d))

  whole_told : Told o.count (offset o outward d)
  unfolding offset
  whole_told = by_test (Told o.count) (proper 128 o.points o.count) (λ e. by_told) (λ e. absurd (false≢true (sym e ∙ q)))

pub offset_demand : OffsetDemand
offset_demand o outward d q = (whole_told o outward d q).told

-- ---- the shape beside a refusal

pub no_outline_empty : EmptyOutline no_outline
unfolding no_outline
no_outline_empty = record { count = refl; numbers = refl }

record EmptyNew (a : NewOutline) : Type 0 where
  empty : granted a.refusal ≡ false → EmptyOutline a.shape

refused_empty : (r : Refusal) → EmptyNew (outline_refused r)
unfolding outline_refused
refused_empty r = record { empty = λ q. no_outline_empty }

granted_empty : (o : Outline) → EmptyNew (record { refusal = Granted; shape = o })
unfolding granted number values
granted_empty o = record { empty = λ q. absurd (false≢true (sym q)) }

pub outline_empty : OutlineEmpty
unfolding outline outline_if new_outline outline_of
outline_empty ps =
    let c : Checked = check_door 128 0 ps (length ps / 2) in
    (both EmptyNew (eqb (length ps % 2) 0)
    (both EmptyNew (granted (check_finite ps))
    (both EmptyNew (granted c.refusal) (granted_empty (stored_outline ps c.count c.back)) (refused_empty c.refusal))
    (refused_empty (check_finite ps)))
    (refused_empty Odd)).empty

module _ (o : Outline) (outward : Bool) (d : Float) (s : Sweep) where
  finished_empty : (tolerance : Float) (p : Pieces) → EmptyNew (offset_found o outward d tolerance p)
  unfolding offset_found offset_clear
  finished_empty tolerance p =
      let q : Outline = p.shape in
      both EmptyNew (granted p.refusal)
      (both EmptyNew p.found
      (both EmptyNew
      (keeps_clear outward (Number.sub d tolerance) o.points o.count q.points q.count && not (rings_meet q.points q.count o.points o.count))
      (granted_empty q) (refused_empty (Splits d)))
      (refused_empty (Collapses d)))
      (refused_empty p.refusal)

  swept_empty : EmptyNew (offset_swept o outward d s)
  unfolding offset_swept offset_finished
  swept_empty =
      let t : Float = offset_tolerance d (extent o.points o.count) in
      both EmptyNew (granted s.refusal) (finished_empty t (pieces s.edges (vertex_at o.points 0) outward d t)) (refused_empty s.refusal)

record EmptyOffset (a : Offset) : Type 0 where
  empty : granted a.refusal ≡ false → EmptyOutline a.shape

plain_empty : (u : Refusal) → EmptyOffset (offset_plain u no_outline)
unfolding offset_plain
plain_empty u = record { empty = λ q. no_outline_empty }

by_empty : (o : Outline) (outward : Bool) (d : Float) (r : Refusal) → EmptyOffset (offset_by o outward d r)
unfolding offset_by offset_from offset_counted offset_plain
by_empty o outward d r =
    both EmptyOffset (granted r)
    (both EmptyOffset (eq d zero_float) (record { empty = (granted_empty o).empty }) (record { empty = (swept_empty o outward d (sweep o outward d)).empty }))
    (plain_empty r)

offset_empty_of : (o : Outline) (outward : Bool) (d : Float) → EmptyOffset (offset o outward d)
unfolding offset
offset_empty_of o outward d = both EmptyOffset (proper 128 o.points o.count) (by_empty o outward d (check_distance d)) (plain_empty Shape)

pub offset_empty : OffsetEmpty
offset_empty o outward d = (offset_empty_of o outward d).empty

-- ---- before the front is loaded

-- 0 and −0 pass 13 and 14
pub zero_granted : (d : Float) → eq d zero_float ≡ true → granted (check_distance d) ≡ true
unfolding check_distance granted number values finite le lt eq lib.Ieee.of_bits
zero_granted nan q = absurd (false≢true q)
zero_granted (inf s) q = absurd (false≢true q)
zero_granted (fin s m e) q = go s
  where
    a : ℕ
    a = m * up e * 1

    none : a ≡ 0
    none = omega (arith, eqb-true a (0 * down e) (and_elim_left (eqb a (0 * down e)) (beq s false || eqb a 0) q))

    go : (t : Bool) → granted (check_distance (fin t m e)) ≡ true
    go false =
        let p : ltb a (1000000000000 * down e) ≡ true = lt-ltb a (1000000000000 * down e) (omega (arith, none, down_pos e)) in
        let r : ltb a (0 * down e) ≡ false = le-ltb a (0 * down e) (omega (arith, none)) in
        rw (p, r) refl
    go true =
        let p : ltb 0 (a + 1000000000000 * down e) ≡ true = lt-ltb 0 (a + 1000000000000 * down e) (omega (arith, down_pos e)) in
        let r : ltb 0 (a + 0 * down e) ≡ false = le-ltb 0 (a + 0 * down e) (omega (arith, none)) in
        rw (p, r) refl

module _ (o : Outline) (outward : Bool) (d : Float) where
  improper_plain : proper 128 o.points o.count ≡ false → offset o outward d ≡ offset_plain Shape no_outline
  unfolding offset
  improper_plain h = rw h refl

  refused_plain : proper 128 o.points o.count ≡ true → granted (check_distance d) ≡ false → offset o outward d ≡ offset_plain (check_distance d) no_outline
  unfolding offset offset_by
  refused_plain h k = rw (h, k) refl

  unmoved_plain : proper 128 o.points o.count ≡ true → eq d zero_float ≡ true → offset o outward d ≡ offset_plain Granted o
  unfolding offset offset_by
  unmoved_plain h k = rw (h, zero_granted d k, k) refl

  loading_plain : proper 128 o.points o.count ≡ true → granted (check_distance d) ≡ true → eq d zero_float ≡ false →
      granted (outline_load o outward d).refusal ≡ false → offset o outward d ≡ offset_plain (outline_load o outward d).refusal no_outline
  unfolding offset offset_by offset_from offset_counted offset_swept offset_plain outline_refused sweep sweep_from
  loading_plain h k z l = rw (h, k, z, sweep_unloaded d (outline_load o outward d) l, l) refl

pub offset_before : OffsetBefore
offset_before o outward d = record {
  improper = improper_plain o outward d;
  refused = refused_plain o outward d;
  unmoved = unmoved_plain o outward d;
  loading = loading_plain o outward d;
}
