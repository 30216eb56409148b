-- `outline_lent::write_numbers` meets its contract. Assumes nothing.
use mathlib.Core.Path.{sym}
use Rattle.base.proofs.Laws.{no_round, goes_on, ends}
use Rattle.outline_lent.proofs.Numbers.{written, left_out}
use Rattle.outline_lent.proofs.write_numbers.Goals as goal
use Rattle.outline_lent.proofs.write_numbers.Goals.{then-k-out, else-k-out}

pub loop-k-init : goal.loop-k-init
loop-k-init c = sym (no_round _ _)

pub loop-k-preserved : goal.loop-k-preserved
loop-k-preserved c = elim c.if-k-out.branch [
  | then-k-out w ↦ rw w.out-is (goes_on _ _ _ _ _ c.loop-k.invariant (written _ _ _ _ w.number_at.ensures))
  | else-k-out w ↦ rw w.out-is (goes_on _ _ _ _ _ c.loop-k.invariant (left_out _ _ _ w.if-k-out.false))
]

pub returns : goal.returns
returns c = ends _ _ _ _ _ c.loop-k.auto.k-end c.loop-k-test.false c.loop-k.invariant
