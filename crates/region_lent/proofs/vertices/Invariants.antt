-- `region_lent::vertices` meets its contract. Assumes nothing.
use Prim.Native.Nat.{◌+◌, ◌-◌, ◌≤◌}
use mathlib.Core.Path.{◌≡◌}
use Rattle.region_lent.specs.Rings.{before_of}
use Rattle.region_lent.proofs.vertices.Given as goal

abbrev pub invariant-loop-k : goal.invariant-loop-k
invariant-loop-k l = l.s ≡ before_of l.n l.cs l.k
