-- `job_stream::line_end` meets its contract. Assumes nothing.
use Prim.Native.Nat.{◌-◌}
use mathlib.Core.Path.{◌≡◌}
use lib.ListN.{length}
use Rattle.job_stream.specs.Feeding.{line_end}
use Rattle.job_stream.proofs.line_end.Given as goal

abbrev pub invariant-loop-k : goal.invariant-loop-k
invariant-loop-k l = line_end l.block l.at ≡ line_end l.block l.k

abbrev pub decreases-loop-k : goal.decreases-loop-k
decreases-loop-k l = length l.block - l.k
