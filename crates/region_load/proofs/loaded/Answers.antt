-- `region_load::loaded` meets its contract. Assumes nothing.
use mathlib.Core.Path.{refl}
use Rattle.region_load.specs.Loads
use Rattle.region_load.proofs.loaded.Goals as goal

pub returns : goal.returns
unfolding Loads.loaded
returns c = refl
