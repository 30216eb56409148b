-- `math::root::start` meets its contract: the pattern made is that of a number. Assumes nothing.
use Prim.Native.Nat.{◌/◌}
use native.Mathlib.Omega.{arith}
use lib.Bits.{mask_lt}
use lib.Ieee.{binary64, to_bits}
use Rattle.math.proofs.Values.{no_nan, same_no_nan}
use Rattle.math.proofs.root.start.Goals as goal

pub float_to_bits-result : goal.float_to_bits-result
float_to_bits-result c = same_no_nan c.args.v c.if-v.false

pub overflow_sub-result : goal.overflow_sub-result
overflow_sub-result c = omega (arith, mask_lt (to_bits binary64 c.args.v / 2) 62)

pub float_from_bits-result : goal.float_from_bits-result
float_from_bits-result c = no_nan _ (omega arith)
