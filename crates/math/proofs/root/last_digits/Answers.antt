-- `math::root::last_digits` meets its contract: the mask keeps 28 digits. Assumes nothing.
use lib.Bits.{mask_lt}
use lib.Ieee.{binary64, to_bits}
use Rattle.math.proofs.Values.{same_no_nan}
use Rattle.math.proofs.root.last_digits.Goals as goal

pub float_to_bits-result : goal.float_to_bits-result
float_to_bits-result c = same_no_nan c.args.x c.if-x.false

pub returns : goal.returns
returns c = mask_lt (to_bits binary64 c.args.x) 28
