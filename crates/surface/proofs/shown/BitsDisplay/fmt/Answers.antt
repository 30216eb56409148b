-- `surface::shown::Bits` is printed safely: the bits of a NaN are not asked. Assumes nothing.
use Rattle.math.proofs.Values.{same_no_nan}
use Rattle.surface.proofs.shown.BitsDisplay.fmt.Goals as goal

pub float_to_bits-x : goal.float_to_bits-x
float_to_bits-x g c = same_no_nan c.args.self.now.0 c.if-x.false
