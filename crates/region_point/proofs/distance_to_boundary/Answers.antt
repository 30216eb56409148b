-- `region_point::distance_to_boundary` meets its contract. Assumes nothing.
use mathlib.Core.Path.{ap}
use Rattle.ring_near.specs.declared.Nearest.{Nearest}
use Rattle.region.specs.Regions
use Rattle.region_point.specs.Gaps.{gap_from}
use Rattle.region_point.proofs.distance_to_boundary.Goals as goal

pub returns : goal.returns
unfolding gap_from Regions.distance_to_boundary
returns c = ap (λ (x : Nearest). x.gap) c.region_nearest.ensures
