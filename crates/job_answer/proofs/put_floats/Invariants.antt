-- `job_answer::put_floats` meets its contract. Assumes nothing.
use mathlib.Core.List.{[]}
use Prim.Native.Nat.{◌+◌, ◌*◌}
use mathlib.Core.Path.{◌≡◌}
use Rattle.base.specs.Loop.{rounds}
use Rattle.format.specs.Lines.{float_field_step}
use Rattle.format_digits.specs.Stores.{put}
use Rattle.job_answer.proofs.put_floats.Given as goal

abbrev pub invariant-loop-k : goal.invariant-loop-k
invariant-loop-k l = (l.here ≡ l.at + 17 * l.k) × (l.out ≡ put l.initial.out l.at (rounds (float_field_step l.ps) l.k []))
