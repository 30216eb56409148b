-- `replay::answer::Answer::float_is` is safe: the bits of a NaN are not asked. Assumes nothing.
use Rattle.math.proofs.Values.{same_no_nan}
use Rattle.replay.proofs.answer.Answer.float_is.Goals as goal

pub float_to_bits-bits : goal.float_to_bits-bits
float_to_bits-bits c = same_no_nan c.args.x c.if-x.false
