-- `region_point::closest_step` meets its contract. Assumes nothing.
use Rattle.region_point.proofs.OneHoleMore.{candidate}
use Rattle.region_point.proofs.closest_step.Goals as goal

pub returns : goal.returns
returns c =
    let ring-gap-gives = c.ring_gap.ensures in
    let hole-points-gives = c.hole_points-hole.ensures in
    let count-at-gives = c.count_at.ensures in
    candidate _ _ _ _ _ _ _ _ c.nearer.ensures ring-gap-gives hole-points-gives count-at-gives
