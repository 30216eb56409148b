-- `outline_sizes::meeting` meets its contract. Assumes nothing.
use mathlib.Core.Path.{sym, ◌∙◌}
use Rattle.outline_ask.specs.Queries
use Rattle.outline_sizes.proofs.Paired.{paired_yes, paired_no}
use Rattle.outline_sizes.proofs.meeting.Goals as goal

pub returns-then-granted : goal.returns-then-granted
unfolding Queries.meeting
returns-then-granted c =
    let ask-both-gives = c.ask_both-r.ensures in
    let granted-gives = c.granted.ensures in
    let yes1 = c.if-granted.true in
    let pair-gives = c.ring_pair.ensures in
    let outer-gives = c.second_outer.ensures in
    c.met_by.ensures ∙ paired_yes _ _ ask-both-gives _ _ _ _ pair-gives outer-gives (sym granted-gives ∙ yes1)

pub returns-else-granted : goal.returns-else-granted
unfolding Queries.meeting
returns-else-granted c =
    let ask-both-gives = c.ask_both-r.ensures in
    let granted-gives = c.granted.ensures in
    c.unmet.ensures ∙ paired_no _ _ ask-both-gives _ _ (sym granted-gives ∙ c.if-granted.false)
