-- `region_point::contains_step` meets its contract. Assumes nothing.
use Rattle.region_point.proofs.OneHoleMore.{asks_hole, stays_on, stays_out}
use Rattle.region_point.proofs.contains_step.Goals as goal

pub returns-in-Inside : goal.returns-in-Inside
returns-in-Inside c =
    let arm = c.in-Inside.is in
    let count-at-gives = c.count_at.ensures in
    let hole-points-gives = c.hole_points-hole.ensures in
    let ring-contains-gives = c.ring_contains.ensures in
    asks_hole _ _ _ _ _ _ _ _ arm count-at-gives hole-points-gives ring-contains-gives c.in_hole.ensures

pub returns-in-OnBoundary : goal.returns-in-OnBoundary
returns-in-OnBoundary c = stays_on _ _ c.in-OnBoundary.is

pub returns-in-Outside : goal.returns-in-Outside
returns-in-Outside c = stays_out _ _ c.in-Outside.is
