-- `front_split::refused` meets its contract. Assumes nothing.
use mathlib.Core.Path.{refl}
use Rattle.front.specs.Sweeps.{sweep_refused}
use Rattle.front_split.specs.Begun.{begun}
use Rattle.front_split.proofs.refused.Goals as goal

pub returns : goal.returns
unfolding sweep_refused begun
returns c = refl
