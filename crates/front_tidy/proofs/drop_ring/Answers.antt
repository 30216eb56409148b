-- `front_tidy::drop_ring` meets its contract. Assumes nothing.
use native.Mathlib.Omega.{arith}
use mathlib.Core.Path.{ap}
use Rattle.base.proofs.Laws.{no_round}
use Rattle.front.specs.declared.Edge.{Edge}
use Rattle.front_tidy.proofs.Dropped.{drop_goes, drop_ends, drop_all}
use Rattle.front_tidy.proofs.drop_ring.Goals as goal

pub loop-init : goal.loop-init
loop-init c = no_round _ _

pub returns-then-next-slot : goal.returns-then-next-slot
returns-then-next-slot c =
    drop_ends _ _ _ _ _ _ _ _ c.loop.invariant (ap (λ (e : Edge). e.next) c.edge_at-next.ensures) c.kill.ensures c.edge_at.ensures c.loop-test.true c.if-next-slot.true

pub loop-preserved : goal.loop-preserved
loop-preserved c =
    drop_goes _ _ _ _ _ _ _ _ c.loop.invariant (ap (λ (e : Edge). e.next) c.edge_at-next.ensures) c.kill.ensures c.edge_at.ensures c.if-next-slot.false

pub returns : goal.returns
returns c = drop_all _ _ _ _ _ (omega arith) c.loop.invariant
