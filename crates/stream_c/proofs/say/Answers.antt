-- `stream_c::say` meets its contract. Assumes nothing.
use borrow.Author.Rules.{rules}
use Rattle.stream_c.specs.State
use Rattle.stream_c.proofs.say.Goals as goal

pub returns : goal.returns
unfolding State.saying
returns c = search rules
