-- `outline_ask::distance_to_boundary` meets its contract. Assumes nothing.
use Rattle.outline_ask.specs.Queries
use Rattle.outline_ask.proofs.GrantedOrRefused.{distance_of}
use Rattle.outline_ask.proofs.distance_to_boundary.Goals as goal

pub returns : goal.returns
unfolding Queries.distance_to_boundary Queries.nearest
returns c = distance_of _ _ _ c.nearest-near.ensures
