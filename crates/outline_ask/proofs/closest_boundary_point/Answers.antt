-- `outline_ask::closest_boundary_point` meets its contract. Assumes nothing.
use Rattle.outline_ask.specs.Queries
use Rattle.outline_ask.proofs.GrantedOrRefused.{point_of}
use Rattle.outline_ask.proofs.closest_boundary_point.Goals as goal

pub returns : goal.returns
unfolding Queries.closest_boundary_point Queries.nearest
returns c = point_of _ _ _ c.nearest-near.ensures
