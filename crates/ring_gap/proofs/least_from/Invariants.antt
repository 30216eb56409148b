-- `ring_gap::least_from` meets its contract. Assumes nothing.
use Prim.Native.Nat.{◌-◌, ◌≤◌}
use Rattle.ring_gap.specs.Blocks
use Rattle.ring_gap.proofs.least_from.Given as goal

abbrev pub invariant-loop-from : goal.invariant-loop-from
invariant-loop-from l = (l.from ≤ l.n) × Blocks.Least (Blocks.FromVertices l.ps l.n 0 l.from l.qs l.m) l.least l.s

abbrev pub decreases-loop-from : goal.decreases-loop-from
decreases-loop-from l = l.n - l.from
