-- `ring_cross::pair::walk_near` meets its contract. Assumes nothing.
use mathlib.Core.Path.{◌≡◌}
use Rattle.std.specs.Prelude.{None}
use Rattle.base.specs.Loop.{rounds}
use Rattle.ring_cross.specs.Pair.{walk_step}
use Rattle.ring_cross.proofs.pair.walk_near.Given as goal

abbrev pub invariant-loop-i : goal.invariant-loop-i
invariant-loop-i l = rounds (walk_step l.ps l.n l.qs l.m) l.i None ≡ None
