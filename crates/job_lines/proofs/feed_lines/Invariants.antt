-- `job_lines::feed_lines` meets its contract. Assumes nothing.
use mathlib.Core.Path.{◌≡◌}
use Rattle.base.specs.Loop.{rounds}
use Rattle.job_stream.specs.Feeding.{feed_step, feed_start}
use Rattle.job_lines.specs.Wire.{feed_of}
use Rattle.job_lines.proofs.feed_lines.Given as goal

abbrev pub invariant-loop : goal.invariant-loop
invariant-loop l = feed_of l.at l.held l.have l.out l.used ≡ rounds (feed_step l.block) l.counter (feed_start l.initial.held l.count l.initial.out)
