-- `front_split::split` meets its contract. Assumes nothing.
use Rattle.front_split.proofs.Parts.{split_lost, split_is}
use Rattle.front_split.proofs.split.Goals as goal

pub returns-in_default : goal.returns-in_default
returns-in_default c = split_lost _ _ _ _ _ _ _ _ c.vertex.ensures c.in_default.is c.refused.ensures

pub returns : goal.returns
returns c = split_is _ _ _ _ _ _ _ _ c.vertex.ensures _ _ _ c.in-Some.is c.one_ring-together.ensures c.free-copy.ensures c.split_into.ensures
