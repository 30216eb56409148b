-- `region_c::hole_into` meets its contract: of a region that is refused, the refusal is what any question of it answers. Assumes nothing.
use Rattle.region_c.proofs.Made.{hole_no}
use Rattle.region_c.proofs.hole_into.Goals as goal

pub returns-else-k-made-clause-answered : goal.returns-else-k-made-clause-answered
returns-else-k-made-clause-answered c = hole_no _ _ _ c.stored-made.ensures.is _ _ c.if-k-made.false
