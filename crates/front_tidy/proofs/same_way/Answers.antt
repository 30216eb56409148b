-- `front_tidy::same_way` meets its contract. Assumes nothing.
use Rattle.front.specs.Tidying
use Rattle.front_tidy.proofs.same_way.Goals as goal

pub returns : goal.returns
unfolding Tidying.same_way
returns c = cc
