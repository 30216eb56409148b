-- `ring_gap::least_between` meets its contract. Assumes nothing.
use Rattle.ring_gap.proofs.Between.{walks_are}
use Rattle.ring_gap.proofs.least_between.Goals as goal

pub returns : goal.returns
returns c = walks_are _ _ _ _ _ _ _ c.infinity.ensures c.least_from.ensures c.least_from-2.ensures
