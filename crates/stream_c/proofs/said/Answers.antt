-- `stream_c::said` meets its contract. Assumes nothing.
use Rattle.stream_c.specs.State
use Rattle.stream_c.proofs.said.Goals as goal

pub returns : goal.returns
unfolding State.said
returns c = c.count_of.ensures
