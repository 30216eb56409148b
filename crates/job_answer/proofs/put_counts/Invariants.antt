-- `job_answer::put_counts` meets its contract. Assumes nothing.
use Prim.Native.Nat.{◌+◌, ◌*◌, ◌≤◌}
use mathlib.Core.Path.{◌≡◌}
use lib.ListN.{length}
use Rattle.format_digits.specs.Stores.{put}
use Rattle.job_answer.specs.Writing.{counts_bytes}
use Rattle.job_answer.proofs.put_counts.Given as goal

abbrev pub invariant-loop-k : goal.invariant-loop-k
invariant-loop-k l = (l.here ≤ l.at + 4 * l.k) × (l.here ≡ l.at + length (counts_bytes l.counts l.k)) × (l.out ≡ put l.initial.out l.at (counts_bytes l.counts l.k))
