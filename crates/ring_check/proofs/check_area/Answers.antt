-- `ring_check::check_area` meets its contract. Assumes nothing.
use mathlib.Core.Path.{sym, ap, ◌∙◌}
use Rattle.base.proofs.Choices.{yes, no}
use Rattle.ring_check.specs.Checks
use Rattle.ring_check.proofs.check_area.Goals as goal

pub returns-then-flat : goal.returns-then-flat
unfolding Checks.check_area
returns-then-flat c =
    let flat-gives = c.flat.ensures in
    let span-gives = c.span.ensures in
    let yes1 = c.if-flat.true in
    yes _ _ _ _ c.refused.ensures (sym (flat-gives ∙ ap (Checks.flat _) span-gives) ∙ yes1)

pub returns-else-flat : goal.returns-else-flat
unfolding Checks.check_area
returns-else-flat c =
    let flat-gives = c.flat.ensures in
    let span-gives = c.span.ensures in
    let no1 = c.if-flat.false in
    no _ _ _ _ c.check_reversed.ensures (sym (flat-gives ∙ ap (Checks.flat _) span-gives) ∙ no1)
