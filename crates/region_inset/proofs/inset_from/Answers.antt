-- `region_inset::inset_from` meets its contract. Assumes nothing.
use Rattle.region.specs.Regions.{region_of}
use Rattle.offset_run.proofs.OffsetByStages.{told_no, told_yes}
use Rattle.region_inset.proofs.InsetIs.{sweep_refused, from_refused, from_granted}
use Rattle.region_inset.proofs.inset_from.Goals as goal

pub returns-then-not-granted : goal.returns-then-not-granted
returns-then-not-granted c =
    let granted-gives = c.granted.ensures in
    let yes1 = c.if-not-granted.true-raw in
    sweep_refused _ _ _ _ (told_no _ _ granted-gives yes1) c.inset_refused.ensures

pub returns-then-not-granted-2 : goal.returns-then-not-granted-2
unfolding region_of
returns-then-not-granted-2 c =
    let granted-gives = c.granted.ensures in
    let no1 = c.if-not-granted.false-raw in
    let region-extent-gives = c.region_extent-extent.ensures in
    let offset-tolerance-gives = c.offset_tolerance-tolerance.ensures in
    let vertex-at-gives = c.vertex_at-origin.ensures in
    let region-pieces-gives = c.region_pieces-p.ensures in
    let found-refusal-gives = c.found_refusal-u.ensures in
    let granted2-gives = c.granted-2.ensures in
    let yes2 = c.if-not-granted-2.true-raw in
    from_refused _ _ _ (told_yes _ _ granted-gives no1) _ _ _ _ _ region-extent-gives offset-tolerance-gives vertex-at-gives region-pieces-gives
    found-refusal-gives _ (told_no _ _ granted2-gives yes2) c.inset_refused-then-not-granted-2.ensures

pub returns : goal.returns
unfolding region_of
returns c =
    let granted-gives = c.granted.ensures in
    let no1 = c.if-not-granted.false-raw in
    let region-extent-gives = c.region_extent-extent.ensures in
    let offset-tolerance-gives = c.offset_tolerance-tolerance.ensures in
    let vertex-at-gives = c.vertex_at-origin.ensures in
    let region-pieces-gives = c.region_pieces-p.ensures in
    let found-refusal-gives = c.found_refusal-u.ensures in
    let granted2-gives = c.granted-2.ensures in
    from_granted _ _ _ (told_yes _ _ granted-gives no1) _ _ _ _ _ region-extent-gives offset-tolerance-gives vertex-at-gives region-pieces-gives
    found-refusal-gives (told_yes _ _ granted2-gives c.if-not-granted-2.false-raw)
