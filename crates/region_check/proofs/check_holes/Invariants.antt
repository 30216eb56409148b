-- `region_check::check_holes` meets its contract. Assumes nothing.
use mathlib.Core.Path.{◌≡◌}
use Rattle.error.specs.declared.Refusal.TheVariants.{Granted}
use Rattle.base.specs.Loop.{rounds}
use Rattle.region.specs.Checks
use Rattle.region.specs.Regions
use Rattle.region_check.proofs.check_holes.Given as goal

abbrev pub invariant-loop-k : goal.invariant-loop-k
invariant-loop-k l = rounds (Checks.hole_step (Regions.region_of l.ps l.n l.hs l.cs l.h)) l.k Granted ≡ Granted
