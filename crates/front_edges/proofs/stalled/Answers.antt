-- `front_edges::stalled` meets its contract. Assumes nothing.
use Rattle.front.specs.Edges
use mathlib.Core.Path.{refl}
use Rattle.front_edges.proofs.stalled.Goals as goal

pub returns : goal.returns
unfolding Edges.stalled
returns c = refl
