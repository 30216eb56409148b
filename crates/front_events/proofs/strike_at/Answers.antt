-- `front_events::strike_at` meets its contract. Assumes nothing.
use Rattle.front_events.specs.Found
use Rattle.front_events.proofs.strike_at.Goals as goal

pub returns : goal.returns
unfolding Found.strike_at
returns c = cc
