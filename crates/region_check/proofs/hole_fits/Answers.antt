-- `region_check::hole_fits` meets its contract. Assumes nothing.
use Rattle.region_check.specs.Apart
use Rattle.region_check.proofs.hole_fits.Goals as goal

pub returns : goal.returns
unfolding Apart.hole_fits
returns c = cc
