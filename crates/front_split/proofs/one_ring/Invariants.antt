-- `front_split::one_ring` meets its contract. Assumes nothing.
use mathlib.Core.Bool.{false}
use mathlib.Core.Path.{◌≡◌}
use Rattle.base.specs.Loop.{rounds}
use Rattle.front.specs.Splitting.{reach_step}
use Rattle.front_split.proofs.FreeSlots.{reach_at}
use Rattle.front_split.proofs.one_ring.Given as goal

abbrev pub invariant-loop : goal.invariant-loop
invariant-loop l = rounds (reach_step l.edges l.a l.b) l.counter (reach_at l.a false false) ≡ reach_at l.at false false
