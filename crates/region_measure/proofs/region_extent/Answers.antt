-- `region_measure::region_extent` meets its contract. Assumes nothing.
use borrow.Author.Rules.{rules}
use mathlib.Core.Path.{ap, ◌∙◌}
use Rattle.base.specs.Loop.{rounds}
use Rattle.offset.proofs.Chains.{fold_told}
use Rattle.region.specs.Regions
use Rattle.region.specs.Regions.{hole_points, hole_count, region_of}
use Rattle.region_measure.proofs.region_extent.Goals as goal

pub returns : goal.returns
unfolding Regions.region_extent Regions.extent_step hole_points hole_count region_of
returns c =
    let a = c.args in
    let r = region_of a.ps.now a.n a.hs.now a.cs.now a.h in
    fold_told (Regions.extent_step r) _ a.h _ _ c.fold.ensures.ran (λ s k b q e. search rules)
    ∙ ap (rounds (Regions.extent_step r) a.h) c.extent.ensures
