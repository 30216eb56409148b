-- `offset_clear::surely` meets its contract. Assumes nothing.
use Rattle.offset_clear.specs.Rings
use Rattle.offset_clear.proofs.surely.Goals as goal

pub returns : goal.returns
unfolding Rings.surely
returns c = cc
