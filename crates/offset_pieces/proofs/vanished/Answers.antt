-- `offset_pieces::vanished` meets its contract. Assumes nothing.
use Rattle.offset_pieces.proofs.Comes.{vanished_by, not_vanished}
use Rattle.offset_pieces.proofs.vanished.Goals as goal

pub returns-then-degenerate : goal.returns-then-degenerate
returns-then-degenerate c =
    let degenerate-gives = c.degenerate.ensures in
    let yes1 = c.if-degenerate.true in
    let signed-area-gives = c.signed_area.ensures in
    vanished_by _ _ _ _ _ degenerate-gives _ _ yes1 signed-area-gives c.abs.ensures

pub returns-else-degenerate : goal.returns-else-degenerate
returns-else-degenerate c = not_vanished _ _ _ _ _ c.degenerate.ensures c.if-degenerate.false
