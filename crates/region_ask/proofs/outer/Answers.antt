-- `region_ask::outer` meets its contract. Assumes nothing.
use Rattle.region_ask.proofs.Whole.{read_yes, read_no, outer_answers}
use Rattle.region.specs.Regions.{region_of}
use Rattle.region_ask.specs.Reads
use Rattle.region_ask.proofs.outer.Goals as goal

pub returns-then-proper_region : goal.returns-then-proper_region
unfolding Reads.outer_of region_of
returns-then-proper_region c =
    let proper-region-gives = c.proper_region.ensures in
    let yes1 = c.if-proper_region.true in
    let both =
    outer_answers _ _ (read_yes _ _ proper-region-gives _ _ c.outline_as.ensures yes1) in
    record { is = both.0; whole = both.1 }

pub returns-else-proper_region : goal.returns-else-proper_region
unfolding Reads.outer_of region_of
returns-else-proper_region c =
    let proper-region-gives = c.proper_region.ensures in
    let no1 = c.if-proper_region.false in
    let both =
    outer_answers _ _ (read_no _ _ proper-region-gives _ _ c.refused.ensures no1) in
    record { is = both.0; whole = both.1 }
