-- `front_events::closing` meets its contract. Assumes nothing.
use Rattle.front_events.specs.Found
use Rattle.front_events.proofs.closing.Goals as goal

pub returns : goal.returns
unfolding Found.closing
returns c = cc
