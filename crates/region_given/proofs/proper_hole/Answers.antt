-- `region_given::proper_hole` meets its contract. Assumes nothing.
use Rattle.region_given.specs.Given
use Rattle.region_given.proofs.proper_hole.Goals as goal

pub returns : goal.returns
unfolding Given.proper_hole
returns c = cc
