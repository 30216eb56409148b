-- `ring_near::reached` meets its contract. Assumes nothing.
use Rattle.ring_near.specs.Near
use Rattle.ring_near.proofs.reached.Goals as goal

pub returns : goal.returns
unfolding Near.reached
returns c = cc
