-- `front_events::within` meets its contract. Assumes nothing.
use Rattle.front.specs.NextEvent
use Rattle.front_events.proofs.within.Goals as goal

pub returns : goal.returns
unfolding NextEvent.hit_within
returns c = cc
