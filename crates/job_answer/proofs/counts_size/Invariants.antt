-- `job_answer::counts_size` meets its contract. Assumes nothing.
use Prim.Native.Nat.{◌*◌, ◌≤◌}
use mathlib.Core.Path.{◌≡◌}
use lib.ListN.{length}
use Rattle.job_answer.specs.Writing.{counts_bytes}
use Rattle.job_answer.proofs.counts_size.Given as goal

abbrev pub invariant-loop-k : goal.invariant-loop-k
invariant-loop-k l = (l.size ≤ 4 * l.k) × (l.size ≡ length (counts_bytes l.counts l.k))
