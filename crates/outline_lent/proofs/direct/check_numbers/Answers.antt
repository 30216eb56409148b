-- `outline_lent::direct::check_numbers` meets its contract. Assumes nothing.
use mathlib.Core.Path.{ap, ◌∙◌}
use borrow.Author.Tests.{eq-eqb, ne_eqb}
use Rattle.base.proofs.Choices.{yes, no}
use Rattle.outline_lent.specs.Direct
use Rattle.outline_lent.proofs.direct.check_numbers.Goals as goal

pub returns-then-ps-eq0 : goal.returns-then-ps-eq0
unfolding Direct.check_numbers
returns-then-ps-eq0 c =
    let check-finite-gives = c.check_finite.ensures in
    let yes1 = c.if-ps-eq0.true in
    yes _ _ _ _ (c.check_if.ensures ∙ ap (Direct.check_if _) check-finite-gives) (eq-eqb _ _ yes1)

pub returns-else-ps-eq0 : goal.returns-else-ps-eq0
unfolding Direct.check_numbers
returns-else-ps-eq0 c = no _ _ _ _ c.refused.ensures (ne_eqb _ _ c.if-ps-eq0.false)
