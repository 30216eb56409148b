-- `ring_check::reaches` meets its contract. Assumes nothing.
use mathlib.Core.Path.{refl}
use Rattle.ring_check.specs.Walks
use Rattle.ring_check.proofs.Reach.{first_tells, second_tells}
use Rattle.ring_check.proofs.reaches.Goals as goal

pub returns-then-x : goal.returns-then-x
unfolding Walks.reaches
returns-then-x c = first_tells _ _ c.if-x.true

pub returns-else-x : goal.returns-else-x
unfolding Walks.reaches
returns-else-x c = second_tells _ _ _ c.if-x.false refl
