-- `front_load::load_vertex` meets its contract. Assumes nothing.
use Rattle.front.specs.Loading.{load_vertex}
use Rattle.front_load.proofs.load_vertex.Goals as goal

pub returns : goal.returns
unfolding load_vertex
returns c = cc
