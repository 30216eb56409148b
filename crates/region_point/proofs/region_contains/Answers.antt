-- `region_point::region_contains` meets its contract. Assumes nothing.
use borrow.Author.Rules.{rules}
use mathlib.Core.Path.{ap, ◌∙◌}
use Rattle.base.specs.Loop.{rounds}
use Rattle.offset.proofs.Chains.{fold_told}
use Rattle.region.specs.Regions
use Rattle.region.specs.Regions.{hole_points, hole_count, region_of}
use Rattle.region_point.proofs.region_contains.Goals as goal

pub returns : goal.returns
unfolding Regions.region_contains Regions.contains_step hole_points hole_count region_of
returns c =
    let a = c.args in
    let step = Regions.contains_step (region_of a.ps.now a.n a.hs.now a.cs.now a.h) a.p in
    fold_told step _ a.h _ _ c.fold.ensures.ran (λ s k b q e. search rules) ∙ ap (rounds step a.h) c.ring_contains.ensures
