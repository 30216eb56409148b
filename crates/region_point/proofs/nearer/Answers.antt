-- `region_point::nearer` meets its contract. Assumes nothing.
use Rattle.base.proofs.Choices.{yes, no}
use Rattle.ring_near.specs.Near
use mathlib.Core.Path.{refl}
use Rattle.region_point.proofs.nearer.Goals as goal

pub returns-then-candidate-best : goal.returns-then-candidate-best
unfolding Near.nearer
returns-then-candidate-best c = yes _ _ _ _ refl c.if-candidate-best.true

pub returns-else-candidate-best : goal.returns-else-candidate-best
unfolding Near.nearer
returns-else-candidate-best c = no _ _ _ _ refl c.if-candidate-best.false
