-- `math::bits::fraction` meets its contract: the mask keeps the last 52 digits. Assumes nothing.
use lib.Bits.{and_mask}
use Rattle.math.proofs.bits.fraction.Goals as goal

pub returns : goal.returns
returns c = and_mask c.args.a 52
