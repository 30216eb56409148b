-- `region_lent::ring_points` meets its contract. Assumes nothing.
use Rattle.region_lent.proofs.Places.{points_first, points_later}
use Rattle.region_lent.proofs.ring_points.Goals as goal

pub returns-then-k-eq0 : goal.returns-then-k-eq0
returns-then-k-eq0 c = points_first _ _ _ c.if-k-eq0.true

pub returns-else-k-eq0 : goal.returns-else-k-eq0
returns-else-k-eq0 c = points_later _ _ _ _ c.if-k-eq0.false c.hole_points.ensures
