-- `front_tidy::empty` meets its contract. Assumes nothing.
use Rattle.front.specs.Tidying
use mathlib.Core.Path.{refl}
use Rattle.front_tidy.proofs.empty.Goals as goal

pub returns : goal.returns
unfolding Tidying.empty
returns c = refl
