-- R-9 of the crossing test: two rings are told to meet if and only if an edge of the one and an edge of the other share a point, in
-- exact numbers. Proved in `proofs/MeetExact.antt`. Assumes nothing.
use Rattle.std.specs.Prelude.{ℕ, ◌<◌, ◌≡◌, true, List, Float}
use Rattle.turn.specs.Turns.{Finite}
use Rattle.segment.specs.Meeting.{Shared}
use Rattle.ring.specs.Ring.{vertex_at, edge_end}
use Rattle.ring_cross.specs.Meet.{rings_meet}

-- edge `first` of the one ring and edge `second` of the other share a point
pub record RingsShare (ps : List Float) (n : ℕ) (qs : List Float) (m : ℕ) : Type 0 where
  pub first : ℕ
  pub first_under : first < n
  pub second : ℕ
  pub second_under : second < m
  pub share : Shared (vertex_at ps first) (edge_end ps n first) (vertex_at qs second) (edge_end qs m second)

-- THE STATEMENT, of every two rings whose numbers are finite
pub record RingsMeetExact : Type 0 where
  pub meeting_share : (ps : List Float) (n : ℕ) (qs : List Float) (m : ℕ) → ((k : ℕ) → k < n → Finite (vertex_at ps k)) →
      ((k : ℕ) → k < m → Finite (vertex_at qs k)) → rings_meet ps n qs m ≡ true → RingsShare ps n qs m
  pub sharing_meet : (ps : List Float) (n : ℕ) (qs : List Float) (m : ℕ) → ((k : ℕ) → k < n → Finite (vertex_at ps k)) →
      ((k : ℕ) → k < m → Finite (vertex_at qs k)) → RingsShare ps n qs m → rings_meet ps n qs m ≡ true
