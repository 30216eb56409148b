-- `job_run::job_fitting` meets its contract. Assumes nothing.
use Rattle.job_run.proofs.Rings.{one_ring, more_rings, no_fit}
use Rattle.job_run.proofs.job_fitting.Goals as goal

pub returns-then-lengths-eq1 : goal.returns-then-lengths-eq1
returns-then-lengths-eq1 c =
    let lengths-fit-gives = c.lengths_fit.ensures in
    let yes1 = c.if-lengths_fit.true in
    let yes2 = c.if-lengths-eq1.true in
    let count-at-gives = c.count_at.ensures in
    let new-outline-gives = c.new_outline.ensures in
    one_ring _ _ _ _ _ lengths-fit-gives yes1 yes2 _ count-at-gives _ new-outline-gives _ c.job_outline.ensures

pub returns-then-lengths_fit : goal.returns-then-lengths_fit
returns-then-lengths_fit c =
    let lengths-fit-gives = c.lengths_fit.ensures in
    let yes1 = c.if-lengths_fit.true in
    let no2 = c.if-lengths-eq1.false in
    let load-rings-gives = c.load_rings.ensures in
    let region-loaded-gives = c.region_loaded.ensures in
    more_rings _ _ _ _ _ lengths-fit-gives yes1 no2 _ load-rings-gives _ region-loaded-gives _ c.job_region.ensures

pub returns : goal.returns
returns c =
    let lengths-fit-gives = c.lengths_fit.ensures in
    let no1 = c.if-lengths_fit.false in
    no_fit _ _ _ _ _ lengths-fit-gives no1 _ c.refused.ensures
