-- `region_pieces::region_pieces` meets its contract. Assumes nothing.
use borrow.Author.Rules.{rules}
use Rattle.offset_pieces.proofs.Visited.{one_more}
use Rattle.region_pieces.proofs.SlotRounds.{none_made, below_eight, hole_placed, passes_on, shrinks, fails, no_place, keeps_outer, keeps_hole, all_passed}
use Rattle.region_pieces.proofs.region_pieces.Goals as goal
use Rattle.region_pieces.proofs.region_pieces.Goals.{then-e-seen+in-Shrunk, then-e-seen+in-Whole+else-not-granted+then-outer, then-e-seen+in-Whole+else-not-granted+else-outer, else-e-seen}

pub loop-slot-init : goal.loop-slot-init
loop-slot-init c = (search rules, search rules, none_made _ _ c.no_outline-ring.ensures)

pub returns-in-Failed : goal.returns-in-Failed
returns-in-Failed c =
    let going = c.loop-slot-test.true in
    let inv = c.loop-slot.invariant in
    let yes1 = c.if-e-seen.true in
    let walk-gives = c.walk-w.ensures in
    let signed-area-gives = c.signed_area-outer.ensures in
    let choose-gives = c.choose-room.ensures in
    let offset-piece-gives = c.offset_piece-piece.ensures in
    fails _ _ _ _ _ _ _ _ _ _ _ _ going inv.2 _ _ _ _ yes1 walk-gives signed-area-gives choose-gives offset-piece-gives _ _ c.in-Failed.is
    c.region_pieces_refused.ensures

pub returns-then-not-granted : goal.returns-then-not-granted
returns-then-not-granted c =
    let going = c.loop-slot-test.true in
    let inv = c.loop-slot.invariant in
    let yes1 = c.if-e-seen.true in
    let walk-gives = c.walk-w.ensures in
    let signed-area-gives = c.signed_area-outer.ensures in
    let choose-gives = c.choose-room.ensures in
    let offset-piece-gives = c.offset_piece-piece.ensures in
    let place-refusal-gives = c.place_refusal-r.ensures in
    let granted-gives = c.granted.ensures in
    let yes2 = c.if-not-granted.true-raw in
    no_place _ _ _ _ _ _ _ _ _ _ _ _ going inv.2 _ _ _ _ yes1 walk-gives signed-area-gives choose-gives offset-piece-gives _ _ c.in-Whole.is _
    _ place-refusal-gives granted-gives _ yes2 c.region_pieces_refused-then-not-granted.ensures

pub overflow_add-held : goal.overflow_add-held
overflow_add-held c =
    let place-refusal-gives = c.place_refusal-r.ensures in
    let granted-gives = c.granted.ensures in
    let no2 = c.if-not-granted.false-raw in
    let no3 = c.if-outer.false in
    search (rules, hole_placed _ _ _ _ _ _ place-refusal-gives granted-gives no2 no3)

pub returns : goal.returns
returns c = all_passed _ _ _ _ _ _ _ _ c.loop-slot.auto.slot-end c.loop-slot-test.false c.loop-slot.invariant.2

pub loop-slot-preserved : goal.loop-slot-preserved
loop-slot-preserved c =
    let inv = c.loop-slot.invariant in
    let going = c.loop-slot-test.true in
    elim c.if-e-seen.branch [
      | then-e-seen+in-Shrunk w ↦
          rw (w.found-is, w.ring-is, w.points-is, w.counts-is, w.held-is, w.place-is, w.seen-is) (
            one_more _ _ inv.0,
            inv.1,
            shrinks _ _ _ _ _ _ _ _ _ _ _ _ going inv.2 _ _ _ _ w.if-e-seen.true w.walk-w.ensures
                w.signed_area-outer.ensures w.choose-room.ensures w.offset_piece-piece.ensures w.in-Shrunk.is,
          )
      | then-e-seen+in-Whole+else-not-granted+then-outer w ↦
          rw (w.found-is, w.ring-is, w.points-is, w.counts-is, w.held-is, w.place-is, w.seen-is) (
            one_more _ _ inv.0,
            inv.1,
            keeps_outer _ _ _ _ _ _ _ _ _ _ _ _ going inv.2 _ _ _ _ w.if-e-seen.true w.walk-w.ensures
                w.signed_area-outer.ensures w.choose-room.ensures w.offset_piece-piece.ensures _ _ w.in-Whole.is _ _ w.place_refusal-r.ensures
                w.granted.ensures _ w.if-not-granted.false-raw w.if-outer.true w.stored_outline-ring.ensures,
          )
      | then-e-seen+in-Whole+else-not-granted+else-outer w ↦
          let free = hole_placed _ _ _ _ _ _ w.place_refusal-r.ensures w.granted.ensures w.if-not-granted.false-raw w.if-outer.false in
          let put = w.put_hole.ensures in
          rw (w.found-is, w.ring-is, w.points-is, w.counts-is, w.held-is, w.place-is, w.seen-is) (
            one_more _ _ inv.0,
            one_more _ 7 (below_eight _ free),
            keeps_hole _ _ _ _ _ _ _ _ _ _ _ _ going inv.2 _ _ _ _ w.if-e-seen.true w.walk-w.ensures
                w.signed_area-outer.ensures w.choose-room.ensures w.offset_piece-piece.ensures _ _ w.in-Whole.is _ _ w.place_refusal-r.ensures
                w.granted.ensures _ _ free w.if-outer.false put.numbers put.vertices,
          )
      | else-e-seen w ↦
          rw (w.found-is, w.ring-is, w.points-is, w.counts-is, w.held-is, w.place-is, w.seen-is)
          (search rules, inv.1, passes_on _ _ _ _ _ _ _ _ _ _ _ _ going inv.2 w.if-e-seen.false)
    ]
