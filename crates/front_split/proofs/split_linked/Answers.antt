-- `front_split::split_linked` meets its contract. Assumes nothing.
use Rattle.front_split.proofs.Parts.{linked_is}
use Rattle.front_split.proofs.split_linked.Goals as goal

pub returns : goal.returns
returns c =
    linked_is _ _ _ _ _ _ _ _ _ _ _ _ _ _ c.copy_of.ensures c.set_at.ensures c.set_next.ensures c.set_previous.ensures c.set_next-2.ensures c.cut.ensures
