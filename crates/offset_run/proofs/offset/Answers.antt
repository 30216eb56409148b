-- `offset_run::offset` meets its contract. Assumes nothing.
use Rattle.offset_run.specs.Found.{outline_of}
use Rattle.offset_run.proofs.OffsetByStages.{told_no, told_yes, plain, unmoved, moved}
use Rattle.offset_run.proofs.offset.Goals as goal

pub returns-then-not-granted : goal.returns-then-not-granted
returns-then-not-granted c =
    let check-distance-gives = c.check_distance.ensures in
    let ask-ring-gives = c.ask_ring-r.ensures in
    let granted-gives = c.granted.ensures in
    let yes1 = c.if-not-granted.true-raw in
    plain _ _ _ _ _ check-distance-gives ask-ring-gives _ (told_no _ _ granted-gives yes1) c.offset_refused.ensures

pub returns-then-d : goal.returns-then-d
returns-then-d c =
    let check-distance-gives = c.check_distance.ensures in
    let ask-ring-gives = c.ask_ring-r.ensures in
    let granted-gives = c.granted.ensures in
    let no1 = c.if-not-granted.false-raw in
    let yes2 = c.if-d.true in
    unmoved _ _ _ _ _ check-distance-gives ask-ring-gives _ (told_yes _ _ granted-gives no1) yes2 c.offset_plain.ensures

pub returns : goal.returns
unfolding outline_of
returns c =
    let check-distance-gives = c.check_distance.ensures in
    let ask-ring-gives = c.ask_ring-r.ensures in
    let granted-gives = c.granted.ensures in
    let no1 = c.if-not-granted.false-raw in
    let no2 = c.if-d.false in
    moved _ _ _ _ _ check-distance-gives ask-ring-gives _ (told_yes _ _ granted-gives no1) no2 c.offset_moved.ensures
