-- `ring_cross::pair::corners` meets its contract. Assumes nothing.
use Rattle.ring_cross.proofs.Frames.{no_vertex, vertex_more, all_vertices}
use Rattle.ring_cross.proofs.pair.corners.Goals as goal

pub loop-k-init : goal.loop-k-init
loop-k-init c = no_vertex _ _ _

pub loop-k-preserved : goal.loop-k-preserved
loop-k-preserved c =
    let inv = c.loop-k.invariant in
    let v = c.vertex_at-v.ensures in
    vertex_more _ _ _ _ _ _ _ inv v c.low-low.ensures.double_point c.low-low.ensures.value c.high-high.ensures

pub returns : goal.returns
returns c =
    let inv = c.loop-k.invariant in
    all_vertices _ _ _ _ _ c.loop-k.auto.k-end c.loop-k-test.false inv
