-- `ring_gap::beyond` meets its contract. Assumes nothing.
use mathlib.Core.Path.{refl}
use Rattle.ring_gap.specs.Blocks
use Rattle.ring_gap.proofs.beyond.Goals as goal

pub returns : goal.returns
unfolding Blocks.beyond
returns c =
    rw (c.sub-h.ensures, c.sub-l.ensures) refl
