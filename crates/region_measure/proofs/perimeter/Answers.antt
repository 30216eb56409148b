-- `region_measure::perimeter` meets its contract. Assumes nothing.
use borrow.Author.Rules.{rules}
use lib.Ieee.{Float}
use Rattle.math.specs.Number.{add, distance}
use Rattle.offset.proofs.Chains.{fold_told}
use Rattle.region.specs.Regions
use Rattle.region.specs.Regions.{hole_points, hole_count, region_of}
use Rattle.region_measure.proofs.Two.{of_two}
use Rattle.region_measure.proofs.perimeter.Goals as goal

pub returns : goal.returns
unfolding Regions.perimeter Regions.perimeter_step hole_points hole_count region_of
returns c =
    let a = c.args in
    let r = region_of a.ps.now a.n a.hs.now a.cs.now a.h in
    of_two (λ (a s : Float). distance (add a s)) c.distance.ensures c.perimeter.ensures
    (fold_told (Regions.perimeter_step r) _ a.h _ _ c.fold-holes.ensures.ran (λ s k b q e. search rules))
