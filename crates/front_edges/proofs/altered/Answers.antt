-- `front_edges::altered` meets its contract. Assumes nothing.
use Rattle.front.specs.Edges
use mathlib.Core.Path.{refl}
use Rattle.front_edges.proofs.altered.Goals as goal

pub returns : goal.returns
unfolding Edges.altered
returns c = refl
