-- `front_split::one_ring` meets its contract. Assumes nothing.
use native.Mathlib.Omega.{arith}
use mathlib.Core.Path.{sym, ap}
use Rattle.base.proofs.Laws.{no_round}
use Rattle.front.specs.declared.Edge.{Edge}
use Rattle.front_split.proofs.FreeSlots.{reach_goes, reach_found, reach_all}
use Rattle.front_split.proofs.one_ring.Goals as goal

pub loop-init : goal.loop-init
loop-init c = no_round _ _

pub returns-then-at-a : goal.returns-then-at-a
returns-then-at-a c =
    sym (reach_found _ _ _ _ _ _ c.loop.invariant (ap (λ (e : Edge). e.next) c.edge_at-at.ensures) c.loop-test.true c.if-at-a.true)

pub loop-preserved : goal.loop-preserved
loop-preserved c = reach_goes _ _ _ _ _ _ c.loop.invariant (ap (λ (e : Edge). e.next) c.edge_at-at.ensures) c.if-at-a.false

pub returns : goal.returns
returns c = sym (reach_all _ _ _ _ _ c.loop.invariant (omega arith))
