-- `region_point::ring_gap` meets its contract. Assumes nothing.
use Rattle.region_point.proofs.OneHoleMore.{gap_is}
use Rattle.region_point.proofs.ring_gap.Goals as goal

pub returns : goal.returns
returns c =
    let nearest-to-gives = c.nearest_to.ensures in
    gap_is _ _ _ _ c.distance_to.ensures nearest-to-gives
