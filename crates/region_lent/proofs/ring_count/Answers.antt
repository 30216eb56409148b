-- `region_lent::ring_count` meets its contract. Assumes nothing.
use Rattle.region_lent.proofs.Places.{count_first, count_later}
use Rattle.region_lent.proofs.ring_count.Goals as goal

pub returns-then-k-eq0 : goal.returns-then-k-eq0
returns-then-k-eq0 c = count_first _ _ _ c.if-k-eq0.true

pub returns-else-k-eq0 : goal.returns-else-k-eq0
returns-else-k-eq0 c = count_later _ _ _ _ c.if-k-eq0.false c.count_at.ensures
