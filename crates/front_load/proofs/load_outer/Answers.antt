-- `front_load::load_outer` meets its contract. Assumes nothing.
use Rattle.front.specs.Loading.{no_front, loaded_nothing}
use Rattle.front_load.proofs.load_outer.Goals as goal

pub returns : goal.returns
unfolding no_front loaded_nothing
returns c = c.load_ring.ensures
