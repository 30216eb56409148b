-- `outline_sizes::extent` meets its contract. Assumes nothing.
use Rattle.outline_ask.specs.Queries
use Rattle.outline_ask.proofs.GrantedOrRefused.{measured_yes, measured_no}
use mathlib.Core.Path.{sym, ◌∙◌}
use Rattle.outline_sizes.proofs.extent.Goals as goal

pub returns-then-granted : goal.returns-then-granted
unfolding Queries.extent
returns-then-granted c =
    let ask-ring-gives = c.ask_ring-r.ensures in
    let granted-gives = c.granted.ensures in
    let yes1 = c.if-granted.true in
    measured_yes _ _ ask-ring-gives _ _ c.extent.ensures (sym granted-gives ∙ yes1)

pub returns-else-granted : goal.returns-else-granted
unfolding Queries.extent
returns-else-granted c =
    let ask-ring-gives = c.ask_ring-r.ensures in
    let granted-gives = c.granted.ensures in
    let no1 = c.if-granted.false in
    c.unmeasured.ensures ∙ measured_no _ _ ask-ring-gives _ (sym granted-gives ∙ no1)
