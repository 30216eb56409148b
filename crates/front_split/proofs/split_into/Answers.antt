-- `front_split::split_into` meets its contract. Assumes nothing.
use Rattle.front_split.proofs.Parts.{split_fits, split_full}
use Rattle.front_split.proofs.split_into.Goals as goal

pub returns-then-copy-lt128 : goal.returns-then-copy-lt128
returns-then-copy-lt128 c =
    split_fits _ _ _ _ _ _ _ _ _ _ _ _ c.if-copy-lt128.true c.edge_at-at.ensures c.edge_at-hit.ensures c.split_linked.ensures c.parted.ensures

pub returns-else-copy-lt128 : goal.returns-else-copy-lt128
returns-else-copy-lt128 c = split_full _ _ _ _ _ _ _ _ _ c.if-copy-lt128.false c.refused.ensures
