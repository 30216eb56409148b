-- `offset_clear::ring_reaches` meets its contract. Assumes nothing.
use Rattle.offset_clear.proofs.Feet.{reaches_gap}
use Rattle.offset_clear.proofs.ring_reaches.Goals as goal

pub returns-then-n-surely : goal.returns-then-n-surely
returns-then-n-surely c =
    let vertex-at-gives = c.vertex_at-a.ensures in
    let edge-end-gives = c.edge_end-b.ensures in
    let surely-gives = c.surely.ensures in
    let yes1 = c.if-n-surely.true in
    reaches_gap _ _ _ _ _ _ _ vertex-at-gives edge-end-gives surely-gives _ yes1 c.gap_reaches.ensures
