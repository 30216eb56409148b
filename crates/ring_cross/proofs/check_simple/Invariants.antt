-- `ring_cross::check_simple` meets its contract. Assumes nothing.
use mathlib.Core.Path.{◌≡◌}
use Rattle.std.specs.Prelude.{None}
use Rattle.base.specs.Loop.{rounds}
use Rattle.ring_cross.specs.Simple.{edge_step}
use Rattle.ring_cross.proofs.Pairs.{Row}
use Rattle.ring_cross.proofs.check_simple.Given as goal

abbrev pub invariant-loop-k : goal.invariant-loop-k
invariant-loop-k l = (l.found ≡ None) × Row l.ps l.n l.back l.i l.a1 l.a2 l.stop l.k l.b1

abbrev pub invariant-pairs : goal.invariant-pairs
invariant-pairs l = (l.found ≡ None) × (rounds (edge_step l.ps l.n l.back) l.i None ≡ None)
