-- `region_point::closest_boundary_point` meets its contract. Assumes nothing.
use mathlib.Core.Path.{ap}
use Rattle.ring_near.specs.declared.Nearest.{Nearest}
use Rattle.region_point.specs.Gaps.{gap_from}
use Rattle.region_point.proofs.closest_boundary_point.Goals as goal

pub returns : goal.returns
unfolding gap_from
returns c = ap (λ (x : Nearest). x.foot) c.region_nearest.ensures
