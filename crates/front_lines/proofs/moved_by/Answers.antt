-- `front_lines::moved_by` meets its contract. Assumes nothing.
use Rattle.front.specs.Edges
use mathlib.Core.Path.{refl}
use Rattle.front_lines.proofs.moved_by.Goals as goal

pub returns : goal.returns
unfolding Edges.moved_by
returns c = refl
