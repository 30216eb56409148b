-- `ring_measure::span` meets its contract. Assumes nothing.
use mathlib.Core.Path.{◌≡◌}
use Rattle.base.specs.Loop.{rounds}
use Rattle.ring_measure.specs.Measures
use Rattle.ring_measure.proofs.span.Given as goal

abbrev pub invariant-loop-k : goal.invariant-loop-k
invariant-loop-k l = l.s ≡ rounds (Measures.bounds_step l.ps) l.k Measures.no_bounds
