-- `stream_c::count_of` meets its contract. Assumes nothing.
use borrow.Author.Rules.{rules}
use Rattle.stream_c.specs.State
use Rattle.stream_c.proofs.count_of.Goals as goal

pub returns : goal.returns
unfolding State.count_of
returns c = search rules
