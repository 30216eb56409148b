-- `region_new::region_if` meets its contract. Assumes nothing.
use mathlib.Core.Path.{refl, sym, ◌∙◌}
use Rattle.base.proofs.Choices.{yes, no}
use Rattle.region.specs.Checks
use Rattle.region_new.proofs.region_if.Goals as goal

pub returns-then-granted : goal.returns-then-granted
unfolding Checks.region_if
returns-then-granted c = yes _ _ _ _ refl (sym c.granted.ensures ∙ c.if-granted.true)

pub returns-else-granted : goal.returns-else-granted
unfolding Checks.region_if
returns-else-granted c =
    let granted-gives = c.granted.ensures in
    let no1 = c.if-granted.false in
    no _ _ _ _ c.region_refused.ensures (sym granted-gives ∙ no1)
