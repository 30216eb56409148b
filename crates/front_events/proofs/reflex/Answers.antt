-- `front_events::reflex` meets its contract. Assumes nothing.
use Rattle.front_events.specs.Found
use Rattle.front_events.proofs.reflex.Goals as goal

pub returns : goal.returns
unfolding Found.reflex
returns c = cc
