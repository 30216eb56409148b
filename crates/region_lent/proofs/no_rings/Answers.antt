-- `region_lent::no_rings` meets its contract. Assumes nothing.
use mathlib.Core.Path.{refl}
use Rattle.region.specs.Queries
use Rattle.region_lent.proofs.no_rings.Goals as goal

pub returns : goal.returns
unfolding Queries.no_rings
returns c = refl
