-- `job_answer::vertices` meets its contract. Assumes nothing.
use Prim.Native.Nat.{◌*◌, ◌≤◌}
use mathlib.Core.Path.{◌≡◌}
use Rattle.base.specs.Loop.{rounds}
use Rattle.job_answer.specs.Writing.{vertices_step}
use Rattle.job_answer.proofs.vertices.Given as goal

abbrev pub invariant-loop-k : goal.invariant-loop-k
invariant-loop-k l = (l.sum ≤ 32 * l.k) × (l.sum ≡ rounds (vertices_step l.counts) l.k 0)
