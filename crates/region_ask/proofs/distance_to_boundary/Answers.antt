-- `region_ask::distance_to_boundary` meets its contract. Assumes nothing.
use mathlib.Core.Path.{sym, ap, ◌∙◌}
use Rattle.region.specs.Queries
use Rattle.outline_ask.proofs.GrantedOrRefused.{measured_yes, measured_no}
use Rattle.region_ask.proofs.distance_to_boundary.Goals as goal

pub returns-then-granted : goal.returns-then-granted
unfolding Queries.region_distance
returns-then-granted c =
    let ask-region-gives = c.ask_region-r.ensures in
    let check-gives = c.check.ensures in
    let granted-gives = c.granted.ensures in
    let yes1 = c.if-granted.true in
    measured_yes _ _ (ask-region-gives ∙ ap (Queries.ask_region _) check-gives) _ _ c.distance_to_boundary.ensures (sym granted-gives ∙ yes1)

pub returns-else-granted : goal.returns-else-granted
unfolding Queries.region_distance
returns-else-granted c =
    let ask-region-gives = c.ask_region-r.ensures in
    let check-gives = c.check.ensures in
    let granted-gives = c.granted.ensures in
    measured_no _ _ (ask-region-gives ∙ ap (Queries.ask_region _) check-gives) _ (sym granted-gives ∙ c.if-granted.false)
