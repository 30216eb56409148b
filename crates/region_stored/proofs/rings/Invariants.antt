-- `region_stored::rings` meets its contract. Assumes nothing.
use Prim.Native.Nat.{◌+◌, ◌*◌, ◌≤◌}
use mathlib.Core.Path.{◌≡◌}
use lib.ListN.{length}
use Rattle.region_load.proofs.Sums.{sum_of}
use Rattle.region_stored.proofs.Walks.{region_at, keeping}
use Rattle.region_stored.proofs.rings.Given as goal

abbrev pub invariant-loop-k : goal.invariant-loop-k
invariant-loop-k l = (l.start ≡ sum_of l.lengths (l.k + 1)) × (2 * l.start ≤ length l.ps) × (keeping l.lengths l.ps l.k ≡ region_at l.outer l.points l.counts l.k)
