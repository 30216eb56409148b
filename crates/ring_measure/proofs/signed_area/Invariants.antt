-- `ring_measure::signed_area` meets its contract. Assumes nothing.
use Prim.Native.Nat.{◌<◌}
use mathlib.Core.Path.{◌≡◌}
use Rattle.math.specs.Number.{zero_float}
use Rattle.plane.specs.Plane.{sub}
use Rattle.ring.specs.Ring.{vertex_at}
use Rattle.base.specs.Loop.{rounds}
use Rattle.ring_measure.specs.Measures
use Rattle.ring_measure.proofs.signed_area.Given as goal

abbrev pub invariant-loop-k : goal.invariant-loop-k
invariant-loop-k l = (l.k < l.n → l.a ≡ sub (vertex_at l.ps l.k) l.first) × (l.s ≡ rounds (Measures.area_step l.ps l.n) l.k zero_float)
