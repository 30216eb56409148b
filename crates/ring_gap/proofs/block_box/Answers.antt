-- `ring_gap::block_box` meets its contract. Assumes nothing.
use Rattle.ring_gap.proofs.Walks.{starts_on, spans_none, spans_on, spans_all}
use Rattle.ring_gap.proofs.block_box.Goals as goal

pub loop-k-init : goal.loop-k-init
loop-k-init c = (λ l. c.vertex_at-a.ensures, spans_none _ _ _ _)

pub loop-k-preserved : goal.loop-k-preserved
loop-k-preserved c =
    let edge-end-gives = c.edge_end-b.ensures in
    let inv = c.loop-k.invariant in (
      starts_on _ _ _ _ _ _ c.requires edge-end-gives,
      spans_on _ _ _ _ _ inv.1 _ _ _ (inv.0 c.loop-k-test.true) edge-end-gives c.widened-s.ensures,
    )

pub returns : goal.returns
returns c = spans_all _ _ _ _ _ _ c.loop-k.invariant.1 c.loop-k-test.false
