-- `front_sweep::advance` meets its contract. Assumes nothing.
use Prim.Native.Nat.{◌+◌, ◌-◌, ◌*◌}
use Rattle.front_sweep.proofs.Holds.{Walked}
use Rattle.front_sweep.proofs.advance.Given as goal

abbrev pub invariant-loop-k : goal.invariant-loop-k
invariant-loop-k l = Walked l.d l.initial.edges l.initial.travelled l.edges l.travelled l.collapses l.divides l.joins l.k l.m

abbrev pub decreases-loop-k : goal.decreases-loop-k
decreases-loop-k l = (387 - l.k) * 130 + (129 - l.m)
