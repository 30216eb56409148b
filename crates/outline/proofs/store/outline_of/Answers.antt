-- `outline::store::outline_of` meets its contract. Assumes nothing.
use Rattle.base.proofs.Choices.{no}
use Rattle.error.specs.Refusals.{granted}
use mathlib.Core.Bool.{true}
use mathlib.Core.Path.{◌≡◌, sym, ◌∙◌}
use Rattle.outline.specs.Outlines
use Rattle.outline.proofs.store.outline_of.Goals as goal

pub returns-then-granted : goal.returns-then-granted
unfolding Outlines.outline_of
returns-then-granted c =
    let args = c.args in
    let granted-gives = c.granted.ensures in
    let yes1 = c.if-granted.true in
    let t : granted args.c.refusal ≡ true = sym granted-gives ∙ yes1 in simp (c.stored_outline.ensures, t)

pub returns-else-granted : goal.returns-else-granted
unfolding Outlines.outline_of
returns-else-granted c =
    let granted-gives = c.granted.ensures in
    let no1 = c.if-granted.false in
    no _ _ _ _ c.refused.ensures (sym granted-gives ∙ no1)
