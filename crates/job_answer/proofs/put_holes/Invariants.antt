-- `job_answer::put_holes` meets its contract. Assumes nothing.
use Prim.Native.Nat.{◌+◌, ◌*◌, ◌≤◌}
use mathlib.Core.Path.{◌≡◌}
use lib.ListN.{length}
use Rattle.format_digits.specs.Stores.{put}
use Rattle.job_answer.specs.Writing.{holes_bytes}
use Rattle.job_answer.proofs.put_holes.Given as goal

abbrev pub invariant-loop-k : goal.invariant-loop-k
invariant-loop-k l = (l.here ≤ l.at + 1088 * l.k) × (l.here ≡ l.at + length (holes_bytes l.points l.counts l.k))
    × (l.out ≡ put l.initial.out l.at (holes_bytes l.points l.counts l.k))
