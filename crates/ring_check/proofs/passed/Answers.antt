-- `ring_check::passed` meets its contract. Assumes nothing.
use mathlib.Core.Path.{refl}
use Rattle.ring_check.specs.Checks
use Rattle.ring_check.proofs.passed.Goals as goal

pub returns : goal.returns
unfolding Checks.passed
returns c =
    let refused-gives = c.refused.ensures in
    let granted-gives = c.granted.ensures in
    rw (c.choose.ensures, granted-gives, refused-gives) refl
