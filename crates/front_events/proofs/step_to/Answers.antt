-- `front_events::step_to` meets its contract. Assumes nothing.
use Rattle.front_events.specs.Found
use Rattle.front_events.proofs.step_to.Goals as goal

pub returns : goal.returns
unfolding Found.step_to
returns c = cc
