-- `outline_lent::write_numbers` meets its contract. Assumes nothing.
use mathlib.Core.Path.{◌≡◌}
use Rattle.base.specs.Loop.{rounds}
use Rattle.outline_lent.specs.Writes.{write_step}
use Rattle.outline_lent.proofs.write_numbers.Given as goal

abbrev pub invariant-loop-k : goal.invariant-loop-k
invariant-loop-k l = l.out ≡ rounds (write_step l.ps 0) l.k l.initial.out
