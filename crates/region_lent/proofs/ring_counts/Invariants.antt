-- `region_lent::ring_counts` meets its contract. Assumes nothing.
use Prim.Native.Nat.{◌+◌, ◌-◌, ◌≤◌}
use mathlib.Core.Path.{◌≡◌}
use Rattle.base.specs.Loop.{rounds}
use lib.ListN.{length, replicate}
use Rattle.region_lent.specs.Rings.{counts_of_step}
use Rattle.region_lent.proofs.ring_counts.Given as goal

abbrev pub invariant-loop-k : goal.invariant-loop-k
invariant-loop-k l = (length l.counts ≡ 9) × (l.counts ≡ rounds (counts_of_step l.n l.cs) l.k (replicate 9 0))
