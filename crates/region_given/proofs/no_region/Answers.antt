-- `region_given::no_region` meets its contract. Assumes nothing.
use Rattle.region.specs.Regions
use Rattle.region_given.proofs.no_region.Goals as goal

pub returns : goal.returns
unfolding Regions.no_region
returns c = cc
