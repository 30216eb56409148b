-- `region_pieces::region_pieces` meets its contract. Assumes nothing.
use Prim.Native.Nat.{◌≤◌}
use mathlib.Core.Path.{◌≡◌}
use Rattle.error.specs.declared.Refusal.TheVariants.{Granted}
use Rattle.base.specs.Loop.{rounds}
use Rattle.region_pieces.proofs.SlotRounds.{region_at, pieces_at, visits_at, piece_step, no_visits}
use Rattle.region_pieces.proofs.region_pieces.Given as goal

abbrev pub invariant-loop-slot : goal.invariant-loop-slot
invariant-loop-slot l = (l.place ≤ l.slot) × (l.held ≤ 8)
    × (rounds (piece_step l.edges l.origin l.d l.tolerance) l.slot no_visits ≡ visits_at (pieces_at Granted l.found (region_at l.ring l.points l.counts l.held))
    l.place l.seen)
