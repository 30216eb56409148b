-- `ring_gap::least_from` meets its contract. Assumes nothing.
use borrow.Author.Rules.{rules}
use Rattle.ring_gap.proofs.Walks.{blocks_none, blocks_on, blocks_all}
use Rattle.ring_gap.proofs.least_from.Goals as goal

pub loop-from-init : goal.loop-from-init
loop-from-init c = (search rules, blocks_none _ _ _ _ _)

pub loop-from-preserved : goal.loop-from-preserved
loop-from-preserved c =
    let run = c.block_end-to.ensures in
    let inv = c.loop-from.invariant in
    (run.within, blocks_on _ _ _ _ _ _ _ _ _ run inv.1 c.block_least-s.ensures)

pub returns : goal.returns
returns c =
    let inv = c.loop-from.invariant in
    blocks_all _ _ _ _ _ _ _ inv.0 c.loop-from-test.false inv.1
