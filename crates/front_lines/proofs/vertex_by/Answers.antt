-- `front_lines::vertex_by` meets its contract. Assumes nothing.
use Rattle.front.specs.Edges
use mathlib.Core.Path.{refl}
use Rattle.front_lines.proofs.vertex_by.Goals as goal

pub returns-in_err-velocity : goal.returns-in_err-velocity
unfolding Edges.vertex_by
returns-in_err-velocity c =
    rw (← c.edge_line.ensures, ← c.velocity.ensures, c.in_err-velocity.was) c.from_residual.ensures

pub returns : goal.returns
unfolding Edges.vertex_by
returns c = rw (← c.edge_line.ensures, ← c.velocity.ensures, c.in_ok-velocity.was, c.moved_by.ensures) refl
