-- `ring_contain::passes` meets its contract. Assumes nothing.
use mathlib.Core.Path.{refl}
use Rattle.ring_contain.specs.Contains
use Rattle.ring_contain.proofs.passes.Goals as goal

pub returns : goal.returns
unfolding Contains.passes
returns c = refl
