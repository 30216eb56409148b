-- `region_point::region_nearest` meets its contract. Assumes nothing.
use Prim.Native.Nat.{◌-◌}
use mathlib.Core.Path.{sym, ap, ◌∙◌}
use Rattle.base.proofs.Laws.{no_round}
use Rattle.region.specs.Regions
use Rattle.region.specs.Regions.{hole_points, hole_count, region_of}
use Rattle.region_point.specs.Gaps.{gap_from}
use Rattle.region_point.proofs.OneHoleMore.{gap_goes_on, gap_ends}
use borrow.Author.Rules.{rules}
use Rattle.region_point.proofs.region_nearest.Goals as goal

pub loop-k-init : goal.loop-k-init
loop-k-init c = c.ring_gap-s.ensures ∙ ap (gap_from _) (sym (no_round _ _))

pub loop-k-preserved : goal.loop-k-preserved
unfolding hole_points hole_count region_of
loop-k-preserved c =
    let inv = c.loop-k.invariant in
    gap_goes_on _ _ _ _ _ _ inv c.closest_step-s.ensures

pub returns : goal.returns
unfolding Regions.closest_boundary_point region_of
returns c = gap_ends _ _ _ _ _ _ c.loop-k.auto.k-end c.loop-k-test.false c.loop-k.invariant
