-- `ring_gap::edges_least` meets its contract. Assumes nothing.
use Rattle.ring_gap.proofs.Walks.{starts_on, edges_none, edges_on, edges_all, up_to}
use Rattle.ring_gap.proofs.edges_least.Goals as goal

pub loop-k-init : goal.loop-k-init
loop-k-init c = (λ l. c.vertex_at-a.ensures, edges_none _ _ _ _ _)

pub loop-k-preserved : goal.loop-k-preserved
loop-k-preserved c =
    let edge-end-gives = c.edge_end-b.ensures in
    let inv = c.loop-k.invariant in (
      starts_on _ _ _ _ _ _ c.requires edge-end-gives,
      edges_on _ _ _ _ _ _ _ c.loop-k.auto.k inv.1 _ _ _ (inv.0 c.loop-k-test.true) edge-end-gives c.lesser_gap-s.ensures,
    )

pub returns : goal.returns
returns c =
    edges_all _ _ _ _ _ _ _ _ (c.loop-k.auto.k-end (up_to _ _ _ c.requires)) c.loop-k-test.false c.loop-k.invariant.1
