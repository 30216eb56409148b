-- `outline_lent::direct::check_outline` meets its contract. Assumes nothing.
use mathlib.Core.Path.{sym, ◌∙◌}
use Rattle.outline_lent.proofs.Unstored.{counted_yes, counted_no}
use Rattle.outline_lent.proofs.direct.check_outline.Goals as goal

pub returns-then-granted : goal.returns-then-granted
returns-then-granted c =
    let check-numbers-gives = c.check_numbers-c.ensures in
    let granted-gives = c.granted.ensures in
    counted_yes _ _ check-numbers-gives (sym granted-gives ∙ c.if-granted.true)

pub returns-else-granted : goal.returns-else-granted
returns-else-granted c =
    let check-numbers-gives = c.check_numbers-c.ensures in
    let granted-gives = c.granted.ensures in
    counted_no _ _ check-numbers-gives (sym granted-gives ∙ c.if-granted.false)
