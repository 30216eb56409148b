-- `front_edges::vertex` meets its contract. Assumes nothing.
use mathlib.Core.Path.{refl}
use Rattle.front.specs.Edges.{vertex_of, vertex}
use Rattle.front_edges.proofs.vertex.Goals as goal

pub returns : goal.returns
unfolding vertex vertex_of
returns c = rw (c.vertex_by.ensures, c.edge_line.ensures, c.edge_at-before.ensures, c.edge_at-e.ensures) refl
