-- `outline::entry::check_finite` meets its contract. Assumes nothing.
use mathlib.Core.Path.{refl, sym}
use Rattle.base.proofs.Laws.{no_round, ends}
use Rattle.outline.specs.Outlines
use Rattle.outline.proofs.Reach.{finite_goes_on, not_finite}
use Rattle.outline.proofs.entry.check_finite.Goals as goal

pub loop-k-init : goal.loop-k-init
loop-k-init c = no_round _ _

pub returns-then-not-finite : goal.returns-then-not-finite
returns-then-not-finite c = not_finite _ _ _ _ refl c.finite.ensures c.loop-k.invariant c.loop-k-test.true c.if-not-finite.true

pub loop-k-preserved : goal.loop-k-preserved
loop-k-preserved c = finite_goes_on _ _ _ _ refl c.finite.ensures c.loop-k.invariant c.if-not-finite.false

pub returns : goal.returns
unfolding Outlines.check_finite
returns c = ends _ _ _ _ _ c.loop-k.auto.k-end c.loop-k-test.false (sym c.loop-k.invariant)
