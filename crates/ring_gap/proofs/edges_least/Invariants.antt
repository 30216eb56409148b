-- `ring_gap::edges_least` meets its contract. Assumes nothing.
use Rattle.ring_gap.specs.Blocks
use Rattle.ring_gap.proofs.Walks.{Starts}
use Rattle.ring_gap.proofs.edges_least.Given as goal

abbrev pub invariant-loop-k : goal.invariant-loop-k
invariant-loop-k l = Starts l.ps l.to l.k l.a × Blocks.Least (Blocks.FromEdges l.ps l.n l.from l.k l.q) l.least l.s
