-- `math::root::guess` meets its contract: the cast is exact, and the guess has at most 28 digits. Assumes nothing.
use native.Mathlib.Omega.{arith}
use Prim.Native.Nat.{◌/◌, ◌^◌}
use lib.Dec.{le→leb}
use lib.Ieee.{in_float}
use Rattle.math.proofs.root.guess.Goals as goal

pub int_to_float-v : goal.int_to_float-v
unfolding in_float
int_to_float-v c = le→leb (c.args.hi / 8) (2 ^ 53) (omega arith)
