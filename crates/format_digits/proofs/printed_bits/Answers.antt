-- `format_digits::printed_bits` meets its contract. Assumes nothing.
use Rattle.math.proofs.Values.{same_no_nan}
use Rattle.format_digits.proofs.Printed.{nan_bits, zero_bits, other_bits}
use Rattle.format_digits.proofs.printed_bits.Goals as goal

pub returns-then-x : goal.returns-then-x
returns-then-x c = nan_bits _ c.if-x.true

pub returns-then-x-2 : goal.returns-then-x-2
returns-then-x-2 c = zero_bits _ c.if-x-2.true

pub float_to_bits-result : goal.float_to_bits-result
float_to_bits-result c = same_no_nan _ c.if-x.false

pub returns : goal.returns
returns c = other_bits _ c.if-x-2.false
