-- `offset_clear::clear_of` meets its contract. Assumes nothing.
use Rattle.offset_clear.proofs.FirstShort.{clear_right, clear_wrong}
use Rattle.offset_clear.proofs.clear_of.Goals as goal

pub returns-then-right_side : goal.returns-then-right_side
returns-then-right_side c =
    let ring-contains-gives = c.ring_contains.ensures in
    let right-side-gives = c.right_side.ensures in
    let yes1 = c.if-right_side.true in
    clear_right _ _ _ _ _ _ _ _ ring-contains-gives right-side-gives yes1 c.reaches.ensures

pub returns : goal.returns
returns c =
    let ring-contains-gives = c.ring_contains.ensures in
    let right-side-gives = c.right_side.ensures in
    clear_wrong _ _ _ _ _ _ _ _ ring-contains-gives right-side-gives c.if-right_side.false
