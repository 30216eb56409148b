-- `region_load::load_holes` meets its contract. Assumes nothing.
use Prim.Native.Nat.{◌+◌, ◌*◌, ◌≤◌}
use mathlib.Core.Path.{◌≡◌}
use lib.ListN.{length}
use Rattle.error.specs.declared.Refusal.TheVariants.{Granted}
use Rattle.region_load.specs.Loads
use Rattle.region_load.proofs.Sums.{sum_of}
use Rattle.region_load.proofs.Rings.{loading}
use Rattle.region_load.proofs.load_holes.Given as goal

abbrev pub invariant-loop-k : goal.invariant-loop-k
invariant-loop-k l = (l.start ≡ sum_of l.lengths (l.k + 1)) × (2 * l.start ≤ length l.ps) ×
    (loading l.lengths l.ps l.outer l.k ≡ Loads.loaded Granted l.outer l.points l.counts l.k l.start)
