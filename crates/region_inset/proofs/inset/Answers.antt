-- `region_inset::inset` meets its contract. Assumes nothing.
use Rattle.region.specs.Regions.{region_of}
use Rattle.offset_run.proofs.OffsetByStages.{told_no, told_yes}
use Rattle.region_inset.proofs.InsetIs.{plain, unmoved, moved, with_demand}
use Rattle.region_inset.proofs.inset.Goals as goal

pub returns-then-not-granted : goal.returns-then-not-granted
unfolding region_of
returns-then-not-granted c =
    let check-distance-gives = c.check_distance.ensures in
    let ask-region-gives = c.ask_region-u.ensures in
    let granted-gives = c.granted.ensures in
    let yes1 = c.if-not-granted.true-raw in
    let both =
    with_demand _ _ _ (plain _ _ _ _ check-distance-gives ask-region-gives _ (told_no _ _ granted-gives yes1) c.inset_refused.ensures) in
    record { is = both.0; bounded = both.1 }

pub returns-then-d : goal.returns-then-d
unfolding region_of
returns-then-d c =
    let check-distance-gives = c.check_distance.ensures in
    let ask-region-gives = c.ask_region-u.ensures in
    let granted-gives = c.granted.ensures in
    let no1 = c.if-not-granted.false-raw in
    let yes2 = c.if-d.true in
    let both =
    with_demand _ _ _ (unmoved _ _ _ _ check-distance-gives ask-region-gives _ (told_yes _ _ granted-gives no1) yes2 c.region_plain.ensures) in
    record { is = both.0; bounded = both.1 }

pub returns : goal.returns
unfolding region_of
returns c =
    let check-distance-gives = c.check_distance.ensures in
    let ask-region-gives = c.ask_region-u.ensures in
    let granted-gives = c.granted.ensures in
    let no1 = c.if-not-granted.false-raw in
    let no2 = c.if-d.false in
    let region-sweep-gives = c.region_sweep-s.ensures in
    let both =
    with_demand _ _ _ (moved _ _ _ _ check-distance-gives ask-region-gives _ _ (told_yes _ _ granted-gives no1) no2 region-sweep-gives c.inset_from.ensures) in
    record { is = both.0; bounded = both.1 }
