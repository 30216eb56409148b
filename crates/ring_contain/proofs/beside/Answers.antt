-- `ring_contain::beside` meets its contract. Assumes nothing.
use mathlib.Core.Path.{refl}
use Rattle.ring_contain.specs.Contains
use Rattle.ring_contain.proofs.beside.Goals as goal

pub returns : goal.returns
unfolding Contains.beside
returns c = refl
