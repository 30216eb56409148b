-- `outline::entry::check_finite` meets its contract. Assumes nothing.
use mathlib.Core.Path.{◌≡◌}
use Rattle.base.specs.Loop.{rounds}
use Rattle.error.specs.declared.Refusal.TheVariants.{Granted}
use Rattle.outline.specs.Outlines
use Rattle.outline.proofs.entry.check_finite.Given as goal

abbrev pub invariant-loop-k : goal.invariant-loop-k
invariant-loop-k l = rounds (Outlines.finite_step l.ps) l.k Granted ≡ Granted
