-- `front_split::parted` meets its contract. Assumes nothing.
use Rattle.front_split.proofs.Parts.{parted_is}
use Rattle.front_split.proofs.parted.Goals as goal

pub returns : goal.returns
returns c = parted_is _ _ _ _ _ c.choose.ensures c.choose-2.ensures
