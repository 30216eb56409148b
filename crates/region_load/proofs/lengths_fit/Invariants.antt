-- `region_load::lengths_fit` meets its contract. Assumes nothing.
use Prim.Native.Nat.{◌≤◌}
use mathlib.Core.Path.{◌≡◌}
use Rattle.region_load.proofs.Sums.{sum_of}
use Rattle.region_load.proofs.lengths_fit.Given as goal

abbrev pub invariant-loop-n : goal.invariant-loop-n
invariant-loop-n l = (l.sum ≤ l.most) × (l.sum ≡ sum_of l.lengths l.n-index)
