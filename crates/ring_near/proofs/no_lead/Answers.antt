-- `ring_near::no_lead` meets its contract. Assumes nothing.
use Rattle.ring_near.specs.Near
use Rattle.ring_near.proofs.no_lead.Goals as goal

pub returns : goal.returns
unfolding Near.no_lead
returns c = cc
