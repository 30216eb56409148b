-- `region_ask::contains` meets its contract. Assumes nothing.
use mathlib.Core.Path.{sym, ap, ◌∙◌}
use Rattle.region.specs.Queries
use Rattle.outline_ask.proofs.GrantedOrRefused.{placed_yes, placed_no}
use Rattle.region_ask.proofs.contains.Goals as goal

pub returns-then-granted : goal.returns-then-granted
unfolding Queries.region_contains
returns-then-granted c =
    let ask-region-gives = c.ask_region-r.ensures in
    let check-gives = c.check.ensures in
    let granted-gives = c.granted.ensures in
    let yes1 = c.if-granted.true in
    placed_yes _ _ (ask-region-gives ∙ ap (Queries.ask_region _) check-gives) _ _ c.region_contains.ensures (sym granted-gives ∙ yes1)

pub returns-else-granted : goal.returns-else-granted
unfolding Queries.region_contains
returns-else-granted c =
    let ask-region-gives = c.ask_region-r.ensures in
    let check-gives = c.check.ensures in
    let granted-gives = c.granted.ensures in
    placed_no _ _ (ask-region-gives ∙ ap (Queries.ask_region _) check-gives) _ (sym granted-gives ∙ c.if-granted.false)
