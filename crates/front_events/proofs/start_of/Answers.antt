-- `front_events::start_of` meets its contract. Assumes nothing.
use Rattle.front_events.specs.Found
use Rattle.front_events.proofs.start_of.Goals as goal

pub returns : goal.returns
unfolding Found.start_of
returns c = cc
