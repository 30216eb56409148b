-- `front_events::next_event` meets its contract. Assumes nothing.
use mathlib.Core.Path.{◌≡◌}
use Prim.Native.Nat.{◌+◌}
use Rattle.base.specs.Loop.{rounds}
use Rattle.front_events.specs.Found.{search_of, used_step}
use Rattle.front_events.proofs.Search.{Outer, Inner}
use Rattle.front_events.proofs.next_event.Given as goal

-- ---- the loops: how many slots are in use; the slots in use; and against each vertex that turns right, the slots again
abbrev pub invariant-loop-k : goal.invariant-loop-k
invariant-loop-k l = l.used ≡ rounds (used_step l.edges) l.k 0

abbrev pub invariant-loop-other : goal.invariant-loop-other
invariant-loop-other l = Inner l.edges l.t l.used l.slot l.e.previous l.p l.v l.end (search_of l.shrinks l.gone l.soon l.initial.splits l.initial.vertex l.initial.hit l.initial.step) (l.slot + 1)
    (search_of l.shrinks l.gone l.soon l.splits l.vertex l.hit l.step) l.other

abbrev pub invariant-loop-slot : goal.invariant-loop-slot
invariant-loop-slot l = Outer l.edges l.t l.used (search_of l.shrinks l.gone l.soon l.splits l.vertex l.hit l.step) l.slot
