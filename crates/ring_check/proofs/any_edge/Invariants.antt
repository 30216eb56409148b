-- `ring_check::any_edge` meets its contract. Assumes nothing.
use Prim.Native.Nat.{◌<◌}
use mathlib.Core.Path.{◌≡◌}
use Rattle.ring.specs.Ring.{vertex_at}
use Rattle.ring_check.specs.Walks
use Rattle.ring_check.proofs.any_edge.Given as goal

abbrev pub invariant-loop-k : goal.invariant-loop-k
invariant-loop-k g l = record { from : l.k < l.n → l.a ≡ vertex_at l.ps l.k; none : Walks.NoneYet (goal.F-post g l.test) l.ps l.n l.k }
