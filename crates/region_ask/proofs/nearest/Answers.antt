-- `region_ask::nearest` meets its contract. Assumes nothing.
use mathlib.Core.Path.{sym, ap, ◌∙◌}
use Rattle.region.specs.Queries
use Rattle.region_ask.proofs.Both.{near_yes, near_no}
use Rattle.region_ask.proofs.nearest.Goals as goal

pub returns-then-granted : goal.returns-then-granted
returns-then-granted c =
    let check-gives = c.check.ensures in
    let ask-gives = c.ask_region-r.ensures in
    let granted-gives = c.granted.ensures in
    let yes1 = c.if-granted.true in
    near_yes _ _ _ (ask-gives ∙ ap (Queries.ask_region _) check-gives) _ _ c.closest_boundary_point-point.ensures c.distance_to.ensures (sym granted-gives ∙ yes1)

pub returns-else-granted : goal.returns-else-granted
returns-else-granted c =
    let ask-region-gives = c.ask_region-r.ensures in
    let check-gives = c.check.ensures in
    let granted-gives = c.granted.ensures in
    near_no _ _ _ (ask-region-gives ∙ ap (Queries.ask_region _) check-gives) (sym granted-gives ∙ c.if-granted.false)
