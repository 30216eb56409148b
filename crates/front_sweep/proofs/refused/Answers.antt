-- `front_sweep::refused` meets its contract. Assumes nothing.
use mathlib.Core.Path.{refl}
use Rattle.front.specs.Loading.{no_front}
use Rattle.front_sweep.specs.Acts
use Rattle.front_sweep.proofs.refused.Goals as goal

pub returns : goal.returns
unfolding Acts.refused no_front
returns c = refl
