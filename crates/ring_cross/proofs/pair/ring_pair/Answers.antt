-- `ring_cross::pair::ring_pair` meets its contract. Assumes nothing.
use mathlib.Core.Path.{sym, ◌∙◌}
use Rattle.ring_cross.proofs.Walks.{outer_second, outer_first}
use Rattle.ring_cross.proofs.pair.ring_pair.Goals as goal

pub returns-then-second_outer : goal.returns-then-second_outer
returns-then-second_outer c =
    c.walk.ensures ∙ outer_second _ _ _ _ (sym c.second_outer.ensures ∙ c.if-second_outer.true)

pub returns : goal.returns
returns c =
    c.walk-2.ensures ∙ outer_first _ _ _ _ (sym c.second_outer.ensures ∙ c.if-second_outer.false)
