-- `front_tidy::find_tidy` meets its contract. Assumes nothing.
use mathlib.Core.Path.{◌≡◌}
use Rattle.base.specs.Loop.{rounds}
use Rattle.front.specs.declared.Tidy.TheVariants.{Settled}
use Rattle.front.specs.Tidying.{find_step}
use Rattle.front_tidy.proofs.find_tidy.Given as goal

abbrev pub invariant-loop-slot : goal.invariant-loop-slot
invariant-loop-slot l = rounds (find_step l.edges l.t) l.slot Settled ≡ Settled
