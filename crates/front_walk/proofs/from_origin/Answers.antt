-- `front_walk::from_origin` meets its contract. Assumes nothing.
use mathlib.Core.Path.{refl}
use Rattle.front_walk.specs.Placed
use Rattle.front_walk.proofs.from_origin.Goals as goal

pub returns : goal.returns
unfolding Placed.from_origin
returns c = refl
