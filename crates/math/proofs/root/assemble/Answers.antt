-- `math::root::assemble` meets its contract: a pattern is put together from an exponent and a significand. Assumes nothing.
use native.Mathlib.Omega.{arith}
use Rattle.math.proofs.Pattern.{finite_is, infinite_is}
use Rattle.math.proofs.root.assemble.Goals as goal

pub returns-then-bits-lt-INFINITE : goal.returns-then-bits-lt-INFINITE
returns-then-bits-lt-INFINITE c = (omega arith, finite_is c.args.q c.args.k c.requires.parts c.if-bits-lt-INFINITE.true)

pub returns-else-bits-lt-INFINITE : goal.returns-else-bits-lt-INFINITE
returns-else-bits-lt-INFINITE c = (omega arith, infinite_is c.args.q c.args.k c.requires.parts c.if-bits-lt-INFINITE.false)
