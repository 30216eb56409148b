-- `region_check::holes_touch` meets its contract. Assumes nothing.
use Rattle.region_check.proofs.FirstRefusal.{edges_touch, one_holds}
use Rattle.region_check.proofs.holes_touch.Goals as goal

pub returns-then-rings_meet : goal.returns-then-rings_meet
returns-then-rings_meet c = edges_touch _ _ _ _ _ c.rings_meet.ensures c.if-rings_meet.true

pub returns : goal.returns
returns c =
    let rings-meet-gives = c.rings_meet.ensures in
    let no1 = c.if-rings_meet.false in
    let vertex-at-gives = c.vertex_at-first.ensures in
    let vertex-at2-gives = c.vertex_at-second.ensures in
    let outside-of-gives = c.lies.ensures in
    one_holds _ _ _ _ _ rings-meet-gives no1 _ _ _ _ vertex-at-gives vertex-at2-gives outside-of-gives
    c.lies-2.ensures
