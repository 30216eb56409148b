-- `ring_cross::pair::second_outer` meets its contract. Assumes nothing.
use mathlib.Core.Path.{refl}
use Rattle.ring_cross.specs.Pair
use Rattle.ring_cross.proofs.pair.second_outer.Goals as goal

pub returns : goal.returns
unfolding Pair.second_outer
returns c = refl
