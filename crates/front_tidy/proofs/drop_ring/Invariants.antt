-- `front_tidy::drop_ring` meets its contract. Assumes nothing.
use mathlib.Core.Bool.{false}
use mathlib.Core.Path.{◌≡◌}
use Rattle.base.specs.Loop.{rounds}
use Rattle.front.specs.Tidying.{drop_step}
use Rattle.front_tidy.proofs.Dropped.{drop_at}
use Rattle.front_tidy.proofs.drop_ring.Given as goal

abbrev pub invariant-loop : goal.invariant-loop
invariant-loop l = rounds (drop_step l.slot) l.counter (drop_at l.fn.edges l.slot false) ≡ drop_at l.edges l.at false
