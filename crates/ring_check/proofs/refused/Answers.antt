-- `ring_check::refused` meets its contract. Assumes nothing.
use mathlib.Core.Path.{refl}
use Rattle.ring_check.specs.Checks
use Rattle.ring_check.proofs.refused.Goals as goal

pub returns : goal.returns
unfolding Checks.refused
returns c = refl
