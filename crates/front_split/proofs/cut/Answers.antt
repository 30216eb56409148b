-- `front_split::cut` meets its contract. Assumes nothing.
use Rattle.front_split.proofs.Parts.{cut_is}
use Rattle.front_split.proofs.cut.Goals as goal

pub returns : goal.returns
returns c = cut_is _ _ _ _ _ _ _ c.set_previous.ensures c.set_start.ensures
