-- `front_walk::placed` meets its contract. Assumes nothing.
use Rattle.front_walk.specs.Placed
use Rattle.front_walk.proofs.placed.Goals as goal

pub returns-in_err-vertex : goal.returns-in_err-vertex
unfolding Placed.placed
returns-in_err-vertex c = rw (← c.vertex_by.ensures, c.in_err-vertex.was) c.from_residual.ensures

pub returns : goal.returns
unfolding Placed.placed
returns c = rw (← c.vertex_by.ensures, c.in_ok-vertex.was, ← c.from_origin.ensures) c.finite_place.ensures
