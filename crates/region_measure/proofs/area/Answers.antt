-- `region_measure::area` meets its contract. Assumes nothing.
use borrow.Author.Rules.{rules}
use lib.Ieee.{Float}
use Rattle.math.specs.Number.{zero_float, sub, fmax}
use Rattle.offset.proofs.Chains.{fold_told}
use Rattle.region.specs.Regions
use Rattle.region.specs.Regions.{hole_points, hole_count, region_of}
use Rattle.region_measure.proofs.Two.{of_two}
use Rattle.region_measure.proofs.area.Goals as goal

pub returns : goal.returns
unfolding Regions.area Regions.area_step hole_points hole_count region_of
returns c =
    let a = c.args in
    let r = region_of a.ps.now a.n a.hs.now a.cs.now a.h in
    of_two (λ (a s : Float). fmax (sub a s) zero_float) c.max.ensures c.area.ensures
    (fold_told (Regions.area_step r) _ a.h _ _ c.fold-holes.ensures.ran (λ s k b q e. search rules))
