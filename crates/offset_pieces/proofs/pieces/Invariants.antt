-- `offset_pieces::pieces` meets its contract. Assumes nothing.
use Prim.Native.Nat.{◌≤◌, ◌-◌}
use mathlib.Core.Path.{◌≡◌}
use Rattle.error.specs.declared.Refusal.TheVariants.{Granted}
use Rattle.base.specs.Loop.{rounds}
use Rattle.offset_pieces.proofs.Walking.{Walking}
use Rattle.offset_pieces.proofs.Visited.{pieces_at, visits_at, piece_step, no_visits}
use Rattle.offset_pieces.proofs.pieces.Given as goal

abbrev pub invariant-loop-closed : goal.invariant-loop-closed
invariant-loop-closed l = Walking l.edges l.d l.origin l.slot l.initial.seen l.seen l.points l.at l.count l.closed

abbrev pub decreases-loop-closed : goal.decreases-loop-closed
decreases-loop-closed l = 128 - l.count

abbrev pub invariant-loop-slot : goal.invariant-loop-slot
invariant-loop-slot l = (l.place ≤ l.slot) × (rounds (piece_step l.edges l.origin l.outward l.d l.tolerance) l.slot no_visits ≡ visits_at (pieces_at Granted l.found l.shape) l.place l.seen)
