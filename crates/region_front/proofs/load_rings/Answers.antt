-- `region_front::load_rings` meets its contract. Assumes nothing.
use mathlib.Core.Path.{sym, ◌∙◌}
use Rattle.base.proofs.Laws.{no_round, goes_on, ends}
use Rattle.region_front.specs.Rings.{load_rings}
use Rattle.region_front.proofs.Takes.{next_step}
use Rattle.region_front.proofs.load_rings.Goals as goal

pub loop-k-init : goal.loop-k-init
loop-k-init c = c.load_outer-s.ensures ∙ sym (no_round _ _)

pub loop-k-preserved : goal.loop-k-preserved
loop-k-preserved c =
    goes_on _ _ _ _ _ c.loop-k.invariant (next_step _ _ _ _ _ _ _ _ _ c.hole_points-hole.ensures c.count_at-count.ensures c.load_next.ensures)

pub returns : goal.returns
unfolding load_rings
returns c = ends _ _ _ _ _ c.loop-k.auto.k-end c.loop-k-test.false c.loop-k.invariant
