-- `math::bits::magnitude` meets its contract: the mask drops the sign. Assumes nothing.
use lib.Bits.{and_mask}
use Rattle.math.proofs.bits.magnitude.Goals as goal

pub returns : goal.returns
returns c = and_mask c.args.pattern 63
