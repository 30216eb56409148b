-- `region_load::lengths_fit` meets its contract. Assumes nothing.
use borrow.Author.Rules.{rules}
use mathlib.Core.Path.{refl, sym}
use Rattle.base.proofs.Laws.{no_round}
use Rattle.region_load.proofs.Sums.{next_ring, too_many, adds_up}
use Rattle.region_load.proofs.lengths_fit.Goals as goal

pub loop-n-init : goal.loop-n-init
loop-n-init c = (search rules, sym (no_round _ _))

pub returns-then-most-sum : goal.returns-then-most-sum
returns-then-most-sum c = too_many _ _ _ _ c.loop-n.invariant.1 _ _ refl c.loop-n.invariant.0 c.loop-n-test.true refl c.if-most-sum.true

pub loop-n-preserved : goal.loop-n-preserved
loop-n-preserved c = (search rules, next_ring _ _ _ _ c.loop-n.invariant.1 refl)

pub returns : goal.returns
returns c = adds_up _ _ _ _ c.loop-n.invariant.1 c.loop-n.auto.n-index-end c.loop-n-test.false
