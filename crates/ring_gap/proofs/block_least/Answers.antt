-- `ring_gap::block_least` meets its contract. Assumes nothing.
use Rattle.ring_gap.proofs.Walks.{vertices_none, vertices_on, vertices_beyond, vertices_all}
use Rattle.ring_gap.proofs.block_least.Goals as goal
use Rattle.ring_gap.proofs.block_least.Goals.{then-not-beyond, else-not-beyond}

pub loop-i-init : goal.loop-i-init
loop-i-init c = vertices_none _ _ _ _ _ _

pub loop-i-preserved : goal.loop-i-preserved
loop-i-preserved c =
    let inv = c.loop-i.invariant in
    elim c.if-not-beyond.branch [
      | then-not-beyond w ↦ rw w.s-is (vertices_on _ _ _ _ _ _ _ _ _ _ c.vertex_at-q.ensures inv w.edges_least-s.ensures)
      | else-not-beyond w ↦ rw w.s-is (vertices_beyond _ _ _ _ _ _ _ _ _ _ _ c.requires.spans c.vertex_at-q.ensures c.beyond.ensures w.if-not-beyond.false inv)
    ]

pub returns : goal.returns
returns c = vertices_all _ _ _ _ _ _ _ _ _ c.loop-i.auto.i-end c.loop-i-test.false c.loop-i.invariant
