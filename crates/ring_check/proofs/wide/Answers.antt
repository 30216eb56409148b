-- `ring_check::wide` meets its contract. Assumes nothing.
use mathlib.Core.Path.{sym, ◌∙◌}
use Rattle.plane.specs.Plane
use Rattle.ring_check.specs.Walks
use Rattle.ring_check.proofs.Reach.{first_tells, second_tells}
use Rattle.ring_check.proofs.wide.Goals as goal

pub returns-then-reaches : goal.returns-then-reaches
unfolding Walks.wide Plane.sub
returns-then-reaches c = c.reaches.ensures ∙ first_tells _ _ (sym c.reaches.ensures ∙ c.if-reaches.true)

pub returns-else-reaches : goal.returns-else-reaches
unfolding Walks.wide Plane.sub
returns-else-reaches c = second_tells _ _ _ (sym c.reaches.ensures ∙ c.if-reaches.false) c.reaches-else-reaches.ensures
