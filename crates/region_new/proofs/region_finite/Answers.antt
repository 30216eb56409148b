-- `region_new::region_finite` meets its contract. Assumes nothing.
use mathlib.Core.Path.{sym, ◌∙◌}
use Rattle.base.proofs.Choices.{no}
use Rattle.region.specs.Checks
use Rattle.region_new.proofs.Checked.{by_loading}
use Rattle.region_new.proofs.region_finite.Goals as goal

pub returns-then-granted : goal.returns-then-granted
returns-then-granted c =
    let granted-gives = c.granted.ensures in
    let yes1 = c.if-granted.true in
    let load-rings-gives = c.load_rings.ensures in
    by_loading _ _ _ _ (sym granted-gives ∙ yes1) _ load-rings-gives c.region_loaded.ensures

pub returns-else-granted : goal.returns-else-granted
unfolding Checks.region_finite
returns-else-granted c =
    let granted-gives = c.granted.ensures in
    let no1 = c.if-granted.false in
    no _ _ _ _ c.region_refused.ensures (sym granted-gives ∙ no1)
