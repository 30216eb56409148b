-- `offset_clear::ring_stays_clear` meets its contract. Assumes nothing.
use Rattle.offset_clear.specs.Rings
use Rattle.offset_clear.proofs.ring_stays_clear.Goals as goal

pub returns : goal.returns
unfolding Rings.ring_stays_clear Rings.ring_keeps_clear Rings.ring_clear_of Rings.clear_by Rings.away
returns c = c.keeps_clear.ensures
