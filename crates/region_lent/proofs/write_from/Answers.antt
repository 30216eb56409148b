-- `region_lent::write_from` meets its contract. Assumes nothing.
use mathlib.Core.Path.{sym, ◌∙◌}
use Rattle.base.proofs.Laws.{no_round, goes_on, ends}
use Rattle.region_lent.proofs.Places.{written, left_out}
use Rattle.region_lent.proofs.write_from.Goals as goal
use Rattle.region_lent.proofs.write_from.Goals.{then-k-room, else-k-room}

pub loop-k-init : goal.loop-k-init
loop-k-init c = sym (no_round _ _)

pub loop-k-preserved : goal.loop-k-preserved
loop-k-preserved c =
    goes_on _ _ _ _ _ c.loop-k.invariant
    (elim c.if-k-room.branch [
      | then-k-room w ↦ w.out-is ∙ written _ _ _ _ _ w.number_at.ensures
      | else-k-room w ↦ w.out-is ∙ left_out _ _ _ _ _ _ c.less-room.ensures c.loop-k.auto.out w.if-k-room.false
    ])

pub returns : goal.returns
returns c = ends _ _ _ _ _ c.loop-k.auto.k-end c.loop-k-test.false c.loop-k.invariant
