-- `ring_gap::widened` meets its contract. Assumes nothing.
use mathlib.Core.Path.{refl}
use Rattle.ring_gap.specs.Blocks
use Rattle.ring_gap.proofs.widened.Goals as goal

pub returns : goal.returns
unfolding Blocks.widened
returns c =
    rw (c.high-3.ensures, c.high-2.ensures, c.high.ensures)
    (rw (c.low-3.ensures.value, c.low-2.ensures.value, c.low.ensures.value) (rw (c.along-far.ensures, c.sub.ensures, c.sub-near.ensures) refl))
