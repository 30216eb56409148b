-- `ring_near::lead_to` meets its contract. Assumes nothing.
use Rattle.ring_near.specs.Near
use Rattle.ring_near.proofs.lead_to.Goals as goal

pub returns : goal.returns
unfolding Near.lead_to
returns c = cc
