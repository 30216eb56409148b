-- `region_check::apart_from` meets its contract. Assumes nothing.
use native.Mathlib.Numerals.{add-one-le}
use Rattle.region_check.proofs.FirstRefusal.{none_after, no_pair, pair_apart, pair_found, pairs_apart}
use Rattle.region_check.proofs.apart_from.Goals as goal

pub returns-then-h-i : goal.returns-then-h-i
returns-then-h-i c = none_after _ _ _ _ c.if-h-i.true

pub loop-j-init : goal.loop-j-init
loop-j-init c = no_pair _ _ _

pub returns-then-pair_touches : goal.returns-then-pair_touches
returns-then-pair_touches c = pair_found _ _ _ _ c.loop-j.auto.j c.loop-j.invariant _ c.loop-j-test.true _ c.pair_touches.ensures c.if-pair_touches.true

pub loop-j-preserved : goal.loop-j-preserved
loop-j-preserved c = pair_apart _ _ _ _ c.loop-j.auto.j c.loop-j.invariant _ c.pair_touches.ensures c.if-pair_touches.false

pub returns : goal.returns
returns c = pairs_apart _ _ _ _ c.loop-j.auto.j c.loop-j.invariant _ (c.loop-j.auto.j-end (add-one-le c.if-h-i.false)) c.loop-j-test.false
