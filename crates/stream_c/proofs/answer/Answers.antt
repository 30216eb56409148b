-- `stream_c::answer` meets its contract. Assumes nothing.
use Rattle.stream_c.specs.Calls
use Rattle.stream_c.proofs.answer.Goals as goal

pub returns : goal.returns
unfolding Calls.fed_answer
returns c = simp c.from-c.ensures
