-- `front_events::shrink` meets its contract. Assumes nothing.
use mathlib.Core.Path.{refl}
use Rattle.front_events.specs.Found.{shrink}
use Rattle.front_events.proofs.shrink.Goals as goal

pub returns : goal.returns
unfolding shrink
returns c = rw c.max.ensures refl
