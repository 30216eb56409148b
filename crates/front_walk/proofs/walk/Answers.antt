-- `front_walk::walk` meets its contract. Assumes nothing.
use Rattle.base.proofs.Laws.{no_round}
use Rattle.front.specs.Finished.{walk_from}
use Rattle.front_walk.proofs.RingWalk.{place_is, walk_loses, walk_goes, walk_closes, walk_ends}
use Rattle.front_walk.proofs.walk.Goals as goal

pub loop-count-init : goal.loop-count-init
unfolding walk_from
loop-count-init c = no_round _ _

pub returns-in_default : goal.returns-in_default
returns-in_default c =
    walk_loses _ _ _ _ _ _ _ _ _ c.loop-count.invariant c.loop-count-test.true
    (place_is _ _ _ _ _ _ _ _ _ c.edge_at-e.ensures c.edge_at-before.ensures c.edge_line.ensures c.placed.ensures c.in_default.is)

pub returns-then-at-first : goal.returns-then-at-first
returns-then-at-first c =
    walk_closes _ _ _ _ _ _ _ _ _ c.loop-count.invariant _ _ _ c.edge_at-e.ensures c.set_at.ensures
    (place_is _ _ _ _ _ _ _ _ _ c.edge_at-e.ensures c.edge_at-before.ensures c.edge_line.ensures c.placed.ensures c.in-Some.is) c.loop-count-test.true
    c.if-at-first.true

pub loop-count-preserved : goal.loop-count-preserved
loop-count-preserved c =
    walk_goes _ _ _ _ _ _ _ _ _ c.loop-count.invariant _ _ _ c.edge_at-e.ensures c.set_at.ensures
    (place_is _ _ _ _ _ _ _ _ _ c.edge_at-e.ensures c.edge_at-before.ensures c.edge_line.ensures c.placed.ensures c.in-Some.is) c.if-at-first.false

pub returns : goal.returns
returns c = walk_ends _ _ _ _ _ _ _ _ _ c.loop-count.invariant c.loop-count.auto.count-end c.loop-count-test.false
