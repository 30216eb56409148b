-- `outline_lent::direct::write_stored` meets its contract. Assumes nothing.
use mathlib.Core.Path.{◌≡◌}
use Rattle.base.specs.Loop.{rounds}
use Rattle.ring.specs.Store
use Rattle.outline_lent.proofs.direct.write_stored.Given as goal

abbrev pub invariant-loop-k : goal.invariant-loop-k
invariant-loop-k l = l.out ≡ rounds (Store.store_step l.ps l.n l.back 0) l.k l.initial.out
