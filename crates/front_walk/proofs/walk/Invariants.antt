-- `front_walk::walk` meets its contract. Assumes nothing.
use mathlib.Core.Bool.{false}
use mathlib.Core.Path.{◌≡◌}
use Rattle.base.specs.Loop.{rounds}
use Rattle.front.specs.Finished.{walk_step, walk_from}
use Rattle.front_walk.proofs.RingWalk.{walk_at}
use Rattle.front_walk.proofs.walk.Given as goal

abbrev pub invariant-loop-count : goal.invariant-loop-count
invariant-loop-count l =
    rounds (walk_step l.edges l.t l.origin l.first) l.count (walk_from l.first l.fn.seen) ≡ walk_at l.at l.seen l.points l.count false false
