-- `outline_sizes::area` meets its contract. Assumes nothing.
use Rattle.outline_ask.specs.Queries
use Rattle.outline_ask.proofs.GrantedOrRefused.{area_yes, area_no}
use mathlib.Core.Path.{sym, ◌∙◌}
use Rattle.outline_sizes.proofs.area.Goals as goal

pub returns-then-granted : goal.returns-then-granted
unfolding Queries.area
returns-then-granted c =
    let ask-ring-gives = c.ask_ring-r.ensures in
    let granted-gives = c.granted.ensures in
    let yes1 = c.if-granted.true in
    area_yes _ _ ask-ring-gives _ _ c.area.ensures (sym granted-gives ∙ yes1)

pub returns-else-granted : goal.returns-else-granted
unfolding Queries.area
returns-else-granted c =
    let ask-ring-gives = c.ask_ring-r.ensures in
    let granted-gives = c.granted.ensures in
    area_no _ _ ask-ring-gives _ (sym granted-gives ∙ c.if-granted.false)
