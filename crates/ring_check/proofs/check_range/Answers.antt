-- `ring_check::check_range` meets its contract. Assumes nothing.
use mathlib.Core.Path.{sym}
use Rattle.base.proofs.Laws.{no_round, ends}
use Rattle.ring_check.specs.Checks
use Rattle.ring_check.proofs.Exits.{range_goes_on, range_refused}
use Rattle.ring_check.proofs.check_range.Goals as goal

pub loop-k-init : goal.loop-k-init
loop-k-init c = no_round _ _

pub returns-then-not-passes : goal.returns-then-not-passes
returns-then-not-passes c =
    range_refused _ _ _ _ _ _ c.vertex_at-v.ensures c.loop-k.invariant _ _ c.loop-k-test.true c.passes.ensures c.if-not-passes.true c.vertex_refusal.ensures

pub loop-k-preserved : goal.loop-k-preserved
loop-k-preserved c = range_goes_on _ _ _ _ _ _ c.vertex_at-v.ensures c.loop-k.invariant _ c.passes.ensures c.if-not-passes.false

pub returns : goal.returns
unfolding Checks.check_range
returns c = ends _ _ _ _ _ c.loop-k.auto.k-end c.loop-k-test.false (sym c.loop-k.invariant)
