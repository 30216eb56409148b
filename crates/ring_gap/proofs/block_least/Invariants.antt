-- `ring_gap::block_least` meets its contract. Assumes nothing.
use Rattle.ring_gap.specs.Blocks
use Rattle.ring_gap.proofs.block_least.Given as goal

abbrev pub invariant-loop-i : goal.invariant-loop-i
invariant-loop-i l = Blocks.Least (Blocks.FromVertices l.ps l.n l.from l.to l.qs l.i) l.least l.s
