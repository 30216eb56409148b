-- `offset_clear::gap_reaches` meets its contract. Assumes nothing.
use mathlib.Core.Path.{◌≡◌}
use mathlib.Core.Bool.{false}
use Rattle.base.specs.Loop.{rounds}
use Rattle.ring.proofs.Starts.{start}
use Rattle.offset_clear.proofs.Folds.{short_step}
use Rattle.offset_clear.proofs.gap_reaches.Given as goal

abbrev pub invariant-loop-k : goal.invariant-loop-k
invariant-loop-k l = (l.a ≡ start l.ps l.n l.k) × (rounds (short_step l.ps l.n l.p l.least) l.k false ≡ false)
