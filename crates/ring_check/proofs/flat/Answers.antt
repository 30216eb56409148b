-- `ring_check::flat` meets its contract. Assumes nothing.
use mathlib.Core.Path.{refl}
use Rattle.ring_check.specs.Checks
use Rattle.ring_check.proofs.flat.Goals as goal

pub returns : goal.returns
unfolding Checks.flat
returns c = rw c.abs.ensures refl
