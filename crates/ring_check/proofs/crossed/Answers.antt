-- `ring_check::crossed` meets its contract. Assumes nothing.
use mathlib.Core.Path.{refl}
use Rattle.ring_check.specs.Checks
use Rattle.ring_check.proofs.crossed.Goals as goal

pub returns-in-None : goal.returns-in-None
unfolding Checks.crossed
returns-in-None c = rw c.in-None.is refl

pub returns-in-Some : goal.returns-in-Some
unfolding Checks.crossed
returns-in-Some c = rw (c.choose.ensures, c.in-Some.is, c.less.ensures, c.less-in-Some.ensures, c.less-last.ensures) refl
