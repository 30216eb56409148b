-- `offset_pieces::pieces` meets its contract. Assumes nothing.
use native.Mathlib.Omega.{arith}
use Rattle.front_walk.proofs.RingWalk.{place_is}
use Rattle.offset_pieces.proofs.Walking.{sets_out, walked, loses, walks_on}
use Rattle.offset_pieces.proofs.Visited.{none_made, passes_on, shrinks, fails, lost_fails, keeps, another, all_passed}
use Rattle.offset_pieces.proofs.pieces.Goals as goal
use Rattle.offset_pieces.proofs.pieces.Goals.{then-edges-slot+else-loop-closed-test+in-Shrunk, then-edges-slot+else-loop-closed-test+in-Whole+else-expected-found, else-edges-slot}

pub loop-slot-init : goal.loop-slot-init
loop-slot-init c = (omega arith, none_made _ _ c.no_outline-shape.ensures)

-- ---- the walk round a ring
pub loop-closed-init : goal.loop-closed-init
loop-closed-init c = sets_out _ _ _ _ _

pub returns-in_default : goal.returns-in_default
returns-in_default c =
    lost_fails _ _ _ _ _ _ _ _ _ _ c.loop-slot-test.true c.loop-slot.invariant.1 _ _ _ _ c.if-edges-slot.true
    (loses _ _ _ _ _ _ _ _ _ _ c.loop-closed.invariant c.loop-closed-test.true
    (place_is _ _ _ _ _ _ _ _ _ c.edge_at-own.ensures c.edge_at-before.ensures c.edge_line-line.ensures c.placed.ensures c.in_default.is)) _ c.pieces_refused.ensures

pub loop-closed-preserved : goal.loop-closed-preserved
loop-closed-preserved c =
    walks_on _ _ _ _ _ _ _ _ _ _ c.loop-closed.invariant c.loop-closed-test.true _ _ _ c.edge_at-own.ensures c.set_at.ensures
    (place_is _ _ _ _ _ _ _ _ _ c.edge_at-own.ensures c.edge_at-before.ensures c.edge_line-line.ensures c.placed.ensures c.in-Some.is)

-- ---- what the ring comes to
pub returns-in-Failed : goal.returns-in-Failed
returns-in-Failed c =
    fails _ _ _ _ _ _ _ _ _ _ c.loop-slot-test.true c.loop-slot.invariant.1 _ _ c.if-edges-slot.true
    (walked _ _ _ _ _ _ _ _ _ _ c.loop-closed.invariant c.loop-closed-test.false) c.offset_piece-piece.ensures _ _ c.in-Failed.is c.pieces_refused-in-Failed.ensures

pub returns-then-expected-found : goal.returns-then-expected-found
returns-then-expected-found c =
    another _ _ _ _ _ _ _ _ _ _ c.loop-slot-test.true c.loop-slot.invariant.1 _ _ c.if-edges-slot.true
    (walked _ _ _ _ _ _ _ _ _ _ c.loop-closed.invariant c.loop-closed-test.false) c.offset_piece-piece.ensures _ _ c.in-Whole.is _ _ c.signed_area-area.ensures
    c.expected.ensures _ c.if-expected-found.true c.pieces_refused-then-expected-found.ensures

pub loop-slot-preserved : goal.loop-slot-preserved
loop-slot-preserved c = elim c.if-edges-slot.branch [
  | then-edges-slot+else-loop-closed-test+in-Shrunk w ↦
      rw (w.found-is, w.shape-is, w.place-is, w.seen-is) (
        omega (arith, c.loop-slot.invariant.0),
        shrinks _ _ _ _ _ _ _ _ _ _ c.loop-slot-test.true c.loop-slot.invariant.1 _ _ w.if-edges-slot.true
            (walked _ _ _ _ _ _ _ _ _ _ w.loop-closed.invariant w.loop-closed-test.false) w.offset_piece-piece.ensures w.in-Shrunk.is,
      )
  | then-edges-slot+else-loop-closed-test+in-Whole+else-expected-found w ↦
      rw (w.found-is, w.shape-is, w.place-is, w.seen-is) (
        omega (arith, c.loop-slot.invariant.0),
        keeps _ _ _ _ _ _ _ _ _ _ c.loop-slot-test.true c.loop-slot.invariant.1 _ _ w.if-edges-slot.true
            (walked _ _ _ _ _ _ _ _ _ _ w.loop-closed.invariant w.loop-closed-test.false) w.offset_piece-piece.ensures _ _ w.in-Whole.is _ _ w.signed_area-area.ensures
            w.expected.ensures _ w.if-expected-found.false w.stored_outline-shape.ensures,
      )
  | else-edges-slot w ↦
      rw (w.found-is, w.shape-is, w.place-is, w.seen-is)
      (omega (arith, c.loop-slot.invariant.0), passes_on _ _ _ _ _ _ _ _ _ _ c.loop-slot-test.true c.loop-slot.invariant.1 w.if-edges-slot.false)
]

pub returns : goal.returns
returns c = all_passed _ _ _ _ _ _ _ _ _ c.loop-slot.auto.slot-end c.loop-slot-test.false c.loop-slot.invariant.1
