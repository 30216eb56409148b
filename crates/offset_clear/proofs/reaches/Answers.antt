-- `offset_clear::reaches` meets its contract. Assumes nothing.
use Rattle.offset_clear.specs.Rings.{away}
use Rattle.offset_clear.proofs.Feet.{by_foot, by_gap}
use Rattle.offset_clear.proofs.reaches.Goals as goal

pub returns-then-foot : goal.returns-then-foot
unfolding away
returns-then-foot c = by_foot _ _ _ _ _ c.if-foot.true c.ring_reaches.ensures

pub returns : goal.returns
unfolding away
returns c = by_gap _ _ _ _ _ c.if-foot.false c.gap_reaches.ensures
