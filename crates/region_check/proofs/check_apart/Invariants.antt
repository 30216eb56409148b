-- `region_check::check_apart` meets its contract. Assumes nothing.
use mathlib.Core.Path.{◌≡◌}
use Rattle.error.specs.declared.Refusal.TheVariants.{Granted}
use Rattle.base.specs.Loop.{rounds}
use Rattle.region_check.specs.Apart
use Rattle.region_check.proofs.check_apart.Given as goal

abbrev pub invariant-loop-i : goal.invariant-loop-i
invariant-loop-i l = rounds (Apart.apart_step l.hs l.cs l.h) l.i Granted ≡ Granted
