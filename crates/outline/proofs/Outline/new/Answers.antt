-- `outline::Outline::new` meets its contract. Assumes nothing.
use borrow.Author.Tests.{eq-eqb, ne_eqb}
use mathlib.Core.Path.{ap, ◌∙◌}
use Rattle.base.proofs.Choices.{yes, no}
use Rattle.outline.specs.Outlines
use Rattle.outline.proofs.Outline.new.Goals as goal

pub returns-then-ps-eq0 : goal.returns-then-ps-eq0
unfolding Outlines.outline
returns-then-ps-eq0 c =
    let check-finite-gives = c.check_finite.ensures in
    let yes1 = c.if-ps-eq0.true in
    yes _ _ _ _ (c.outline_if.ensures ∙ ap (Outlines.outline_if _) check-finite-gives) (eq-eqb _ _ yes1)

pub returns-else-ps-eq0 : goal.returns-else-ps-eq0
unfolding Outlines.outline
returns-else-ps-eq0 c = no _ _ _ _ c.refused.ensures (ne_eqb _ _ c.if-ps-eq0.false)
