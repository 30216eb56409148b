-- `ring_cross::pair::walk` meets its contract. Assumes nothing.
use mathlib.Core.Path.{sym}
use Rattle.ring_cross.proofs.Frames.{rings_apart}
use Rattle.ring_cross.proofs.Walks.{walk_apart}
use Rattle.ring_cross.proofs.pair.walk.Goals as goal

-- boxes apart
pub returns-then-boxes_apart : goal.returns-then-boxes_apart
returns-then-boxes_apart c =
    let outer = c.corners-outer.ensures in
    let inner = c.corners-inner.ensures in
    sym (walk_apart _ _ _ _ (rings_apart _ _ _ _ _ _ _ _ outer inner _ c.boxes_apart.ensures c.if-boxes_apart.true))
