-- `outline::entry::in_range` meets its contract. Assumes nothing.
use mathlib.Core.Path.{◌≡◌}
use mathlib.Core.Bool.{true}
use Rattle.base.specs.Loop.{rounds}
use Rattle.outline.specs.Outlines
use Rattle.outline.proofs.entry.in_range.Given as goal

abbrev pub invariant-loop-k : goal.invariant-loop-k
invariant-loop-k l = l.s ≡ rounds (Outlines.in_range_step l.ps) l.k true
