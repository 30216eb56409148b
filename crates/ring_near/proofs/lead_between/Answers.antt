-- `ring_near::lead_between` meets its contract. Assumes nothing.
use Rattle.ring_near.specs.Near
use Rattle.ring_near.proofs.lead_between.Goals as goal

pub returns : goal.returns
unfolding Near.lead_between
returns c = cc
