-- `ring_near::leader` meets its contract. Assumes nothing.
use mathlib.Core.Path.{refl, sym, ◌∙◌}
use Rattle.base.proofs.Choices.{yes, no}
use Rattle.ring_near.specs.Near
use Rattle.ring_near.proofs.leader.Goals as goal

pub returns-then-clearly : goal.returns-then-clearly
unfolding Near.leader
returns-then-clearly c = yes _ _ _ _ refl (sym c.clearly.ensures ∙ c.if-clearly.true)

pub returns-then-clearly-2 : goal.returns-then-clearly-2
unfolding Near.leader
returns-then-clearly-2 c =
    let clearly2-gives = c.clearly-2.ensures in
    let clearly-gives = c.clearly.ensures in
    let no1 = c.if-clearly.false in
    no _ _ _ _ (yes _ _ _ _ refl (sym clearly2-gives ∙ c.if-clearly-2.true)) (sym clearly-gives ∙ no1)

pub returns : goal.returns
unfolding Near.leader
returns c =
    let clearly2-gives = c.clearly-2.ensures in
    let no2 = c.if-clearly-2.false in
    let clearly-gives = c.clearly.ensures in
    let no1 = c.if-clearly.false in
    no _ _ _ _ (no _ _ _ _ c.closer.ensures (sym clearly2-gives ∙ no2))
    (sym clearly-gives ∙ no1)
