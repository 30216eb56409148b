-- `ring_near::clearly` meets its contract. Assumes nothing.
use mathlib.Core.Path.{refl}
use Rattle.ring_near.specs.Near
use Rattle.ring_near.proofs.clearly.Goals as goal

pub returns : goal.returns
unfolding Near.clearly
returns c = refl
