-- `offset_run::offset_moved` meets its contract. Assumes nothing.
use Rattle.offset_run.specs.Found.{outline_of}
use Rattle.offset_run.proofs.OffsetByStages.{told_no, told_yes, sweep_refused, from_refused, from_granted, from_front}
use Rattle.offset_run.proofs.offset_moved.Goals as goal

pub returns-then-not-granted : goal.returns-then-not-granted
unfolding outline_of
returns-then-not-granted c =
    let vertex-at-gives = c.vertex_at-origin.ensures in
    let load-outer-gives = c.load_outer-loaded.ensures in
    let advance-gives = c.advance-s.ensures in
    let granted-gives = c.granted.ensures in
    let yes1 = c.if-not-granted.true-raw in
    from_front _ _ _ _ _ _ vertex-at-gives load-outer-gives advance-gives _ (sweep_refused _ _ _ _ _ (told_no _ _ granted-gives yes1) c.offset_refused.ensures)

pub returns-then-not-granted-2 : goal.returns-then-not-granted-2
unfolding outline_of
returns-then-not-granted-2 c =
    let vertex-at-gives = c.vertex_at-origin.ensures in
    let load-outer-gives = c.load_outer-loaded.ensures in
    let advance-gives = c.advance-s.ensures in
    let granted-gives = c.granted.ensures in
    let no1 = c.if-not-granted.false-raw in
    let extent-gives = c.extent.ensures in
    let offset-tolerance-gives = c.offset_tolerance-tolerance.ensures in
    let pieces-gives = c.pieces-p.ensures in
    let found-refusal-gives = c.found_refusal-u.ensures in
    let granted2-gives = c.granted-2.ensures in
    let yes2 = c.if-not-granted-2.true-raw in
    from_front _ _ _ _ _ _ vertex-at-gives load-outer-gives advance-gives _ (from_refused _ _ _ _ (told_yes _ _ granted-gives no1) _ _ _ _ _
    extent-gives offset-tolerance-gives vertex-at-gives pieces-gives found-refusal-gives _ (told_no _ _ granted2-gives yes2)
    c.offset_refused-then-not-granted-2.ensures)

pub returns : goal.returns
unfolding outline_of
returns c =
    let vertex-at-gives = c.vertex_at-origin.ensures in
    let load-outer-gives = c.load_outer-loaded.ensures in
    let advance-gives = c.advance-s.ensures in
    let granted-gives = c.granted.ensures in
    let no1 = c.if-not-granted.false-raw in
    let extent-gives = c.extent.ensures in
    let offset-tolerance-gives = c.offset_tolerance-tolerance.ensures in
    let pieces-gives = c.pieces-p.ensures in
    let found-refusal-gives = c.found_refusal-u.ensures in
    let granted2-gives = c.granted-2.ensures in
    let no2 = c.if-not-granted-2.false-raw in
    from_front _ _ _ _ _ _ vertex-at-gives load-outer-gives advance-gives _ (from_granted _ _ _ _ (told_yes _ _ granted-gives no1) _ _ _ _ _
    extent-gives offset-tolerance-gives vertex-at-gives pieces-gives found-refusal-gives (told_yes _ _ granted2-gives no2))
