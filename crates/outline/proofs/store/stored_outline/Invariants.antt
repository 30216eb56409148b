-- `outline::store::stored_outline` meets its contract. Assumes nothing.
use mathlib.Core.Path.{◌≡◌}
use lib.ListN.{length, replicate}
use Rattle.math.specs.Number.{zero_float}
use Rattle.base.specs.Loop.{rounds}
use Rattle.ring.specs.Store.{store_step}
use Rattle.outline.proofs.store.stored_outline.Given as goal

abbrev pub invariant-loop-k : goal.invariant-loop-k
invariant-loop-k l = (length l.points ≡ 256) × (l.points ≡ rounds (store_step l.ps l.n l.back 0) l.k (replicate 256 zero_float))
