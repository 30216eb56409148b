-- `region_inset_lent::inset_told` meets its contract. Assumes nothing.
use mathlib.Core.Path.{refl}
use Rattle.region.specs.Queries
use Rattle.region_inset_lent.proofs.inset_told.Goals as goal

pub returns : goal.returns
unfolding Queries.inset_told
returns c = refl
