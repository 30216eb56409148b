-- `region_load::no_load` meets its contract. Assumes nothing.
use Rattle.region_load.specs.Loads
use Rattle.region_load.proofs.no_load.Goals as goal

pub returns : goal.returns
unfolding Loads.no_load
returns c = cc
