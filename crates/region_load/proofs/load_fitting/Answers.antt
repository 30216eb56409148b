-- `region_load::load_fitting` meets its contract. Assumes nothing.
use mathlib.Core.Path.{sym, ◌∙◌}
use Rattle.region_load.proofs.Rings.{outer_passed, outer_refused}
use Rattle.region_load.proofs.load_fitting.Goals as goal

pub returns-then-granted : goal.returns-then-granted
returns-then-granted c =
    let count-at-gives = c.count_at-n.ensures in
    let new-outline-gives = c.new_outline-o.ensures in
    let granted-gives = c.granted.ensures in
    let yes1 = c.if-granted.true in
    c.load_holes.ensures ∙
    outer_passed _ _ _ count-at-gives _ new-outline-gives (sym granted-gives ∙ yes1)

pub returns-else-granted : goal.returns-else-granted
returns-else-granted c =
    let count-at-gives = c.count_at-n.ensures in
    let new-outline-gives = c.new_outline-o.ensures in
    let granted-gives = c.granted.ensures in
    let no1 = c.if-granted.false in
    c.no_load.ensures ∙
    outer_refused _ _ _ count-at-gives _ new-outline-gives (sym granted-gives ∙ no1)
