-- `region_check::pair_touches` meets its contract. Assumes nothing.
use Rattle.region_check.specs.Apart
use Rattle.region_check.proofs.pair_touches.Goals as goal

pub returns : goal.returns
unfolding Apart.pair_touches
returns c = cc
