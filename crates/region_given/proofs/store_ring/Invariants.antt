-- `region_given::store_ring` meets its contract. Assumes nothing.
use mathlib.Core.Path.{◌≡◌}
use Rattle.base.specs.Loop.{rounds}
use Rattle.ring.specs.Store.{store_step}
use Rattle.region_given.proofs.store_ring.Given as goal

abbrev pub invariant-loop-k : goal.invariant-loop-k
invariant-loop-k l = l.out ≡ rounds (store_step l.ps l.n l.back l.base) l.k l.initial.out
