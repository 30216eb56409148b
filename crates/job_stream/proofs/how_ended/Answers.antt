-- `job_stream::how_ended` meets its contract. Assumes nothing.
use Rattle.job_stream.specs.Feeding.{how_ended}
use Rattle.job_stream.proofs.how_ended.Goals as goal

pub returns-then-whole : goal.returns-then-whole
unfolding how_ended
returns-then-whole c = simp c.if-whole.true

pub returns-else-whole : goal.returns-else-whole
unfolding how_ended
returns-else-whole c = simp c.if-whole.false
