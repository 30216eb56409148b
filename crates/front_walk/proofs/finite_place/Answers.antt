-- `front_walk::finite_place` meets its contract. Assumes nothing.
use Rattle.front_walk.specs.Placed
use Rattle.front_walk.proofs.RingWalk.{finite_is}
use Rattle.front_walk.proofs.finite_place.Goals as goal

pub returns : goal.returns
unfolding Placed.finite_place
returns c = cc (finite_is _ _)
