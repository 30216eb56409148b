-- `front_tidy::midpoint` meets its contract. Assumes nothing.
use Rattle.front.specs.Tidying
use mathlib.Core.Path.{refl}
use Rattle.front_tidy.proofs.midpoint.Goals as goal

pub returns : goal.returns
unfolding Tidying.midpoint
returns c = refl
