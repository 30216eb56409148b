-- `ring_cross::pair::first_listed` meets its contract. Assumes nothing.
use mathlib.Core.Path.{◌≡◌}
use Rattle.std.specs.Prelude.{None}
use Rattle.base.specs.Loop.{rounds}
use Rattle.ring_cross.specs.Pair.{edge_step}
use Rattle.ring_cross.specs.LeftOut.{stretch_from}
use Rattle.ring_cross.proofs.pair.first_listed.Given as goal

abbrev pub invariant-loop-t : goal.invariant-loop-t
invariant-loop-t l = rounds (edge_step l.qs l.m l.i l.a1 l.a2) (stretch_from l.edges l.t) None ≡ None
