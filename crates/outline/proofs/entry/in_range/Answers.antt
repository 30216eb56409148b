-- `outline::entry::in_range` meets its contract. Assumes nothing.
use mathlib.Core.Path.{refl, sym}
use Rattle.base.proofs.Laws.{no_round, goes_on, ends}
use Rattle.outline.specs.Outlines
use Rattle.outline.proofs.Reach.{in_step, short}
use Rattle.outline.proofs.entry.in_range.Goals as goal

pub returns-then-ps-n : goal.returns-then-ps-n
returns-then-ps-n c = short _ _ c.if-ps-n.true

pub loop-k-init : goal.loop-k-init
loop-k-init c = sym (no_round _ _)

pub loop-k-preserved : goal.loop-k-preserved
loop-k-preserved c = goes_on _ _ _ _ _ c.loop-k.invariant (in_step _ _ _ _ _ refl c.in_reach-s.ensures)

pub returns : goal.returns
unfolding Outlines.in_range
returns c = ends _ _ _ _ _ c.loop-k.auto.k-end c.loop-k-test.false c.loop-k.invariant
