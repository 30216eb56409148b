-- `ring_check::check_in_range` meets its contract. Assumes nothing.
use mathlib.Core.Path.{sym, ◌∙◌}
use Rattle.base.proofs.Choices.{yes, no}
use Rattle.ring_check.specs.Checks
use Rattle.ring_check.proofs.check_in_range.Goals as goal

pub returns-then-granted : goal.returns-then-granted
unfolding Checks.check_in_range
returns-then-granted c =
    let granted-gives = c.granted.ensures in
    let yes1 = c.if-granted.true in
    yes _ _ _ _ c.check_shape.ensures (sym granted-gives ∙ yes1)

pub returns-else-granted : goal.returns-else-granted
unfolding Checks.check_in_range
returns-else-granted c =
    let granted-gives = c.granted.ensures in
    let no1 = c.if-granted.false in
    no _ _ _ _ c.refused.ensures (sym granted-gives ∙ no1)
