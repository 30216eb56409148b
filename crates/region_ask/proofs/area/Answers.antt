-- `region_ask::area` meets its contract. Assumes nothing.
use mathlib.Core.Path.{sym, ◌∙◌}
use Rattle.region.specs.Queries
use Rattle.outline_ask.proofs.GrantedOrRefused.{measured_yes, measured_no}
use Rattle.region_ask.proofs.area.Goals as goal

pub returns-then-granted : goal.returns-then-granted
unfolding Queries.region_area
returns-then-granted c =
    let ask-region-gives = c.ask_region-r.ensures in
    let granted-gives = c.granted.ensures in
    let yes1 = c.if-granted.true in
    measured_yes _ _ ask-region-gives _ _ c.area.ensures (sym granted-gives ∙ yes1)

pub returns-else-granted : goal.returns-else-granted
unfolding Queries.region_area
returns-else-granted c =
    let ask-region-gives = c.ask_region-r.ensures in
    let granted-gives = c.granted.ensures in
    measured_no _ _ ask-region-gives _ (sym granted-gives ∙ c.if-granted.false)
