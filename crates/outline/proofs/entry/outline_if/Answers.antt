-- `outline::entry::outline_if` meets its contract. Assumes nothing.
use mathlib.Core.Path.{sym, ◌∙◌}
use Rattle.base.proofs.Choices.{yes, no}
use Rattle.outline.specs.Outlines
use Rattle.outline.proofs.entry.outline_if.Goals as goal

pub returns-then-granted : goal.returns-then-granted
unfolding Outlines.outline_if
returns-then-granted c =
    let granted-gives = c.granted.ensures in
    let yes1 = c.if-granted.true in
    yes _ _ _ _ c.new_outline.ensures (sym granted-gives ∙ yes1)

pub returns-else-granted : goal.returns-else-granted
unfolding Outlines.outline_if
returns-else-granted c =
    let granted-gives = c.granted.ensures in
    let no1 = c.if-granted.false in
    no _ _ _ _ c.refused.ensures (sym granted-gives ∙ no1)
