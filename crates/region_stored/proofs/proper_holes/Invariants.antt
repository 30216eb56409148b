-- `region_stored::proper_holes` meets its contract. Assumes nothing.
use Prim.Native.Nat.{◌+◌, ◌*◌, ◌≤◌}
use mathlib.Core.Path.{◌≡◌}
use mathlib.Core.Bool.{true}
use lib.ListN.{length}
use Rattle.region_load.proofs.Sums.{sum_of}
use Rattle.region_stored.proofs.Walks.{passing}
use Rattle.region_stored.proofs.proper_holes.Given as goal

abbrev pub invariant-loop-k : goal.invariant-loop-k
invariant-loop-k l = (l.start ≡ sum_of l.lengths (l.k + 1)) × (2 * l.start ≤ length l.ps) × (passing l.lengths l.ps l.k ≡ true)
