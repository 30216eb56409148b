-- `front_tidy::opposed` meets its contract. Assumes nothing.
use mathlib.Core.Path.{refl}
use Rattle.front.specs.Tidying
use Rattle.front_tidy.proofs.opposed.Goals as goal

pub returns : goal.returns
unfolding Tidying.opposed
returns c = rw c.dot.ensures refl
