-- `lizardwire::feed_block` meets its contract, and ends: each round takes a byte at least. Assumes nothing.
use Prim.Native.Nat.{◌-◌, ◌≤◌}
use lib.ListN.{length}
use Rattle.lizardwire.proofs.ProgramRounds.{Line}
use Rattle.lizardwire.proofs.feed_block.Given as goal

abbrev pub invariant-loop-at : goal.invariant-loop-at
invariant-loop-at g l = (l.at ≤ length l.block) × (l.have ≤ 16385) × Line l.block l.initial.held l.count l.at l.held l.have

abbrev pub decreases-loop-at : goal.decreases-loop-at
decreases-loop-at g l = length l.block - l.at
