-- `region_new::given_rings` meets its contract. Assumes nothing.
use mathlib.Core.Path.{refl}
use Rattle.region_new.proofs.GivenRings.{none_given, hole_given, all_given}
use Rattle.region_new.proofs.given_rings.Goals as goal

pub loop-k-init : goal.loop-k-init
loop-k-init c = none_given _ _ _

pub loop-k-preserved : goal.loop-k-preserved
loop-k-preserved c =
    let put = c.put_hole.ensures in
    hole_given _ _ _ _ _ _ c.loop-k.invariant c.loop-k-test.true _ refl _ c.hole_points-hole.ensures _ _ put.numbers put.vertices

pub returns : goal.returns
returns c = all_given _ _ _ _ _ _ c.loop-k.invariant c.loop-k.auto.k-end c.loop-k-test.false
