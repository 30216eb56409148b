-- `ring_check::passes` meets its contract. Assumes nothing.
use mathlib.Core.Path.{refl}
use Rattle.ring_check.specs.Walks
use Rattle.ring_check.proofs.passes.Goals as goal

pub returns : goal.returns
unfolding Walks.passes
returns c = rw (c.beyond.ensures, c.beyond-2.ensures) refl
