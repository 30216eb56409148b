-- `ring_cross::pair::first_from` meets its contract. Assumes nothing.
use Prim.Native.Nat.{◌<◌}
use mathlib.Core.Path.{◌≡◌}
use Rattle.std.specs.Prelude.{None}
use Rattle.base.specs.Loop.{rounds}
use Rattle.ring.specs.Ring.{vertex_at}
use Rattle.ring_cross.specs.Pair.{edge_step}
use Rattle.ring_cross.proofs.pair.first_from.Given as goal

abbrev pub invariant-loop-k : goal.invariant-loop-k
invariant-loop-k l = record { start : l.k < l.m → l.b1 ≡ vertex_at l.qs l.k; none : rounds (edge_step l.qs l.m l.i l.a1 l.a2) l.k None ≡ None }
