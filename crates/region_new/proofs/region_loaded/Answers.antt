-- `region_new::region_loaded` meets its contract. Assumes nothing.
use mathlib.Core.Path.{sym, ◌∙◌}
use Rattle.base.proofs.Choices.{yes, no}
use Rattle.region.specs.Checks
use Rattle.region_new.proofs.region_loaded.Goals as goal

pub returns-then-granted : goal.returns-then-granted
unfolding Checks.region_loaded
returns-then-granted c =
    let granted-gives = c.granted.ensures in
    let yes1 = c.if-granted.true in
    yes _ _ _ _ c.checked_region.ensures (sym granted-gives ∙ yes1)

pub returns-else-granted : goal.returns-else-granted
unfolding Checks.region_loaded
returns-else-granted c =
    let granted-gives = c.granted.ensures in
    let no1 = c.if-granted.false in
    no _ _ _ _ c.region_refused.ensures (sym granted-gives ∙ no1)
