-- `ring_check::check_range` meets its contract. Assumes nothing.
use mathlib.Core.Path.{◌≡◌}
use Rattle.base.specs.Loop.{rounds}
use Rattle.error.specs.declared.Refusal.TheVariants.{Granted}
use Rattle.ring_check.specs.Checks
use Rattle.ring_check.proofs.check_range.Given as goal

abbrev pub invariant-loop-k : goal.invariant-loop-k
invariant-loop-k l = rounds (Checks.range_step l.room l.index l.ps l.n) l.k Granted ≡ Granted
