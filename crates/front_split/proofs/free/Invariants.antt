-- `front_split::free` meets its contract. Assumes nothing.
use mathlib.Core.Path.{◌≡◌}
use Rattle.base.specs.Loop.{rounds}
use Rattle.front.specs.Splitting.{free_step}
use Rattle.front_split.proofs.free.Given as goal

abbrev pub invariant-loop-k : goal.invariant-loop-k
invariant-loop-k l = rounds (free_step l.edges) l.k 128 ≡ 128
