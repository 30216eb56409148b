-- `region_new::region_refused` meets its contract. Assumes nothing.
use Rattle.region.specs.Checks
use Rattle.region_new.proofs.region_refused.Goals as goal

pub returns : goal.returns
unfolding Checks.region_refused
returns c = cc
