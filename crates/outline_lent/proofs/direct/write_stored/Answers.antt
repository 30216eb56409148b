-- `outline_lent::direct::write_stored` meets its contract. Assumes nothing.
use mathlib.Core.Path.{sym}
use Rattle.base.proofs.Laws.{no_round, goes_on, ends}
use Rattle.ring.specs.Store
use Rattle.outline_lent.proofs.Straight.{store_both}
use Rattle.outline_lent.proofs.direct.write_stored.Goals as goal

pub loop-k-init : goal.loop-k-init
loop-k-init c = sym (no_round _ _)

pub loop-k-preserved : goal.loop-k-preserved
loop-k-preserved c = goes_on _ _ _ _ _ c.loop-k.invariant (store_both _ _ _ _ _ _ c.stored_at-v.ensures)

pub returns : goal.returns
unfolding Store.stored
returns c = ends _ _ _ _ _ c.loop-k.auto.k-end c.loop-k-test.false c.loop-k.invariant
