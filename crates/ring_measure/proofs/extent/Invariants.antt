-- `ring_measure::extent` meets its contract. Assumes nothing.
use mathlib.Core.Path.{◌≡◌}
use Rattle.base.specs.Loop.{rounds}
use Rattle.math.specs.Number.{zero_float}
use Rattle.ring_measure.specs.Measures
use Rattle.ring_measure.proofs.extent.Given as goal

abbrev pub invariant-loop-k : goal.invariant-loop-k
invariant-loop-k l = l.s ≡ rounds (Measures.extent_step l.ps) l.k zero_float
