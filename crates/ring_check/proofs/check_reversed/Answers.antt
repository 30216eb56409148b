-- `ring_check::check_reversed` meets its contract. Assumes nothing.
use mathlib.Core.Path.{refl}
use Rattle.ring_check.specs.Checks
use Rattle.ring_check.proofs.check_reversed.Goals as goal

pub returns : goal.returns
unfolding Checks.check_reversed
returns c =
    let crossed-gives = c.crossed.ensures in
    let simple-gives = c.check_simple.ensures in
    rw (c.passed.ensures, crossed-gives, simple-gives) refl
