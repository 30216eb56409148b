-- `region_front::region_sweep` meets its contract. Assumes nothing.
use Rattle.region_front.proofs.Takes.{swept}
use Rattle.region_front.proofs.region_sweep.Goals as goal

pub returns : goal.returns
returns c = swept _ _ _ _ _ _ _ _ _ c.vertex_at-origin.ensures c.load_rings.ensures c.advance.ensures
