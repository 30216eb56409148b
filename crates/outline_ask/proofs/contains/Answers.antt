-- `outline_ask::contains` meets its contract. Assumes nothing.
use Rattle.outline_ask.specs.Queries
use Rattle.outline_ask.proofs.GrantedOrRefused.{placed_yes, placed_no}
use mathlib.Core.Path.{sym, ap, ◌∙◌}
use Rattle.outline.specs.Outlines.{ask_ring}
use Rattle.outline_ask.proofs.contains.Goals as goal

pub returns-then-granted : goal.returns-then-granted
unfolding Queries.contains
returns-then-granted c =
    let ask-ring-gives = c.ask_ring-r.ensures in
    let check-gives = c.check.ensures in
    let granted-gives = c.granted.ensures in
    let yes1 = c.if-granted.true in
    placed_yes _ _ (ask-ring-gives ∙ ap (ask_ring _ _) check-gives) _ _ c.place_of.ensures (sym granted-gives ∙ yes1)

pub returns-else-granted : goal.returns-else-granted
unfolding Queries.contains
returns-else-granted c =
    let ask-ring-gives = c.ask_ring-r.ensures in
    let check-gives = c.check.ensures in
    let granted-gives = c.granted.ensures in
    placed_no _ _ (ask-ring-gives ∙ ap (ask_ring _ _) check-gives) _ (sym granted-gives ∙ c.if-granted.false)
