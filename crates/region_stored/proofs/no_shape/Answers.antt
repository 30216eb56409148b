-- `region_stored::no_shape` meets its contract. Assumes nothing.
use Rattle.region.specs.Checks
use Rattle.region_stored.proofs.no_shape.Goals as goal

pub returns : goal.returns
unfolding Checks.region_refused
returns c = cc
