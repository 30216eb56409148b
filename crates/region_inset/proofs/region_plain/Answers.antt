-- `region_inset::region_plain` meets its contract. Assumes nothing.
use mathlib.Core.Path.{refl}
use Rattle.region.specs.Insets
use Rattle.region_inset.proofs.region_plain.Goals as goal

pub returns : goal.returns
unfolding Insets.region_plain
returns c = refl
