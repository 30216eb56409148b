-- `region_ask::hole` meets its contract. Assumes nothing.
use Rattle.region_ask.proofs.Whole.{read_yes, read_no}
use Rattle.region.specs.Regions.{hole_points, hole_count, region_of}
use Rattle.region.specs.Queries
use Rattle.region_ask.proofs.hole.Goals as goal

pub returns-then-proper_region : goal.returns-then-proper_region
unfolding Queries.region_hole Queries.hole_outline hole_points hole_count region_of
returns-then-proper_region c =
    let proper-region-gives = c.proper_region.ensures in
    let yes1 = c.if-proper_region.true in
    read_yes _ _ proper-region-gives _ _ c.hole_outline.ensures yes1

pub returns-else-proper_region : goal.returns-else-proper_region
unfolding Queries.region_hole Queries.hole_outline hole_points hole_count region_of
returns-else-proper_region c =
    let proper-region-gives = c.proper_region.ensures in
    let no1 = c.if-proper_region.false in
    read_no _ _ proper-region-gives _ _ c.refused.ensures no1
