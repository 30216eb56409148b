-- `region_point::region_nearest` meets its contract. Assumes nothing.
use Prim.Native.Nat.{◌-◌, ◌≤◌}
use mathlib.Core.Path.{◌≡◌}
use Rattle.base.specs.Loop.{rounds}
use Rattle.ring_near.specs.Near.{nearest}
use Rattle.region.specs.Regions
use Rattle.region.specs.Regions.{region_of}
use Rattle.region_point.specs.Gaps.{gap_from}
use Rattle.region_point.proofs.region_nearest.Given as goal

abbrev pub invariant-loop-k : goal.invariant-loop-k
invariant-loop-k l = l.s ≡ gap_from l.p (rounds (Regions.closest_step (region_of l.ps l.n l.hs l.cs l.h) l.p) l.k (nearest l.ps l.n l.p).foot)
