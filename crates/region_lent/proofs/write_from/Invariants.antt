-- `region_lent::write_from` meets its contract. Assumes nothing.
use mathlib.Core.Path.{◌≡◌}
use Rattle.base.specs.Loop.{rounds}
use Rattle.outline_lent.specs.Writes.{write_step}
use Rattle.region_lent.proofs.write_from.Given as goal

abbrev pub invariant-loop-k : goal.invariant-loop-k
invariant-loop-k l = l.out ≡ rounds (write_step l.ps l.base) l.k l.initial.out
