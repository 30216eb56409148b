-- `front_split::copy_of` meets its contract. Assumes nothing.
use mathlib.Core.Path.{refl}
use Rattle.front.specs.Edges.{on_line_of}
use Rattle.front.specs.Splitting.{copy_of}
use Rattle.front_split.proofs.copy_of.Goals as goal

pub returns : goal.returns
unfolding copy_of on_line_of
returns c = refl
