-- `front_tidy::drop_both` meets its contract. Assumes nothing.
use Rattle.front_tidy.proofs.Dropped.{both_is}
use Rattle.front_tidy.proofs.drop_both.Goals as goal

pub returns : goal.returns
returns c = both_is _ _ _ _ _ _ _ _ _ _ c.remove.ensures c.remove-2.ensures c.set_start.ensures c.altered.ensures
