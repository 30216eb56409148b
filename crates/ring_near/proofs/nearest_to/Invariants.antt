-- `ring_near::nearest_to` meets its contract. Assumes nothing.
use mathlib.Core.Path.{◌≡◌}
use Rattle.base.specs.Loop.{rounds}
use Rattle.ring_near.specs.Near
use Rattle.ring.proofs.Starts.{start}
use Rattle.ring_near.proofs.nearest_to.Given as goal

abbrev pub invariant-loop-k : goal.invariant-loop-k
invariant-loop-k l = (l.a ≡ start l.ps l.n l.k) × (l.s ≡ rounds (Near.lead_step l.ps l.n l.p) l.k (Near.no_lead l.p))
