-- `region_lent::write_rings` meets its contract. Assumes nothing.
use Prim.Native.Nat.{◌+◌, ◌-◌, ◌*◌, ◌≤◌}
use mathlib.Core.Path.{◌≡◌}
use Rattle.base.specs.Loop.{rounds}
use lib.ListN.{length}
use Rattle.region.specs.Queries.{write_rings_step}
use Rattle.region.specs.Regions.{region_of}
use Rattle.region_lent.specs.Rings.{before_of}
use Rattle.region_lent.proofs.write_rings.Given as goal

abbrev pub invariant-loop-k : goal.invariant-loop-k
invariant-loop-k l = (l.base ≡ 2 * before_of l.n l.cs l.k) × (length l.out ≡ length l.initial.out) × (l.out ≡ rounds (write_rings_step (region_of l.ps l.n l.hs l.cs l.h)) l.k l.initial.out)
