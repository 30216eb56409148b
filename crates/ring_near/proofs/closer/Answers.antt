-- `ring_near::closer` meets its contract. Assumes nothing.
use mathlib.Core.Path.{refl, sym, ◌∙◌}
use mathlib.Core.Bool.{true, false}
use Rattle.base.proofs.Choices.{yes}
use Rattle.ring_near.specs.Near
use Rattle.ring_near.proofs.Leads.{closer_told}
use Rattle.ring_near.proofs.closer.Goals as goal

pub returns-then-same : goal.returns-then-same
unfolding Near.closer
returns-then-same c = yes _ _ _ _ refl (sym c.same.ensures ∙ c.if-same.true)

pub returns-then-gap-least : goal.returns-then-gap-least
returns-then-gap-least c =
    let same_gives = c.same.ensures in
    let no1 = c.if-same.false in
    let length-of-gives = c.length_of-gap.ensures in
    let length-of2-gives = c.length_of-least.ensures in
    closer_told _ _ _ _ true _ _ same_gives no1 length-of-gives length-of2-gives
    c.if-gap-least.true refl

pub returns-else-gap-least : goal.returns-else-gap-least
returns-else-gap-least c =
    let same_gives = c.same.ensures in
    let no1 = c.if-same.false in
    let length-of-gives = c.length_of-gap.ensures in
    let length-of2-gives = c.length_of-least.ensures in
    closer_told _ _ _ _ false _ _ same_gives no1 length-of-gives length-of2-gives
    c.if-gap-least.false refl
