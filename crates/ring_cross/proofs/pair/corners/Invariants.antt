-- `ring_cross::pair::corners` meets its contract. Assumes nothing.
use Rattle.ring_cross.specs.LeftOut.{Framed}
use Rattle.ring_cross.proofs.pair.corners.Given as goal

abbrev pub invariant-loop-k : goal.invariant-loop-k
invariant-loop-k l = Framed l.ps l.k l.low l.high
