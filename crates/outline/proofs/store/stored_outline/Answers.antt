-- `outline::store::stored_outline` meets its contract. Assumes nothing.
use mathlib.Core.Path.{refl, sym}
use lib.ListN.{length-set}
use Rattle.base.proofs.Laws.{no_round, goes_on, ends}
use Rattle.outline.proofs.Stores.{store_in, store_out, stored_as}
use Rattle.outline.proofs.store.stored_outline.Goals as goal
use Rattle.outline.proofs.store.stored_outline.Goals.{then-k-lt128, else-k-lt128}

pub loop-k-init : goal.loop-k-init
loop-k-init c = (refl, sym (no_round _ _))

pub loop-k-preserved : goal.loop-k-preserved
loop-k-preserved c = elim c.if-k-lt128.branch [
  | then-k-lt128 w ↦ rw w.points-is (simp length-set c.loop-k.invariant.0, goes_on _ _ _ _ _ c.loop-k.invariant.1 (store_in _ _ _ _ _ _ c.stored_at-v.ensures))
  | else-k-lt128 w ↦
      rw w.points-is (c.loop-k.invariant.0, goes_on _ _ _ _ _ c.loop-k.invariant.1 (store_out _ _ _ _ _ c.loop-k.invariant.0 w.if-k-lt128.false))
]

pub returns : goal.returns
returns c = stored_as _ _ _ _ (ends _ _ _ _ _ c.loop-k.auto.k-end c.loop-k-test.false c.loop-k.invariant.1)
