-- R-1: what the least gap of two rings is: no vertex of either is nearer to an edge of the other, the closing ones included; some vertex
-- is as near as that, or it is infinity; and it is the same, bit for bit, whichever ring is named first. Proved in
-- `proofs/Between.antt`. Assumes nothing.
use Rattle.std.specs.Prelude.{ℕ, ◌<◌, ◌⊎◌, ◌≡◌, false, List, Float}
use Rattle.std.specs.Float.Ieee.{lt}
use Rattle.math.specs.Number.{infinity}
use Rattle.ring.specs.Ring.{vertex_at}
use Rattle.ring_gap.specs.Gap.{least_between}
use Rattle.ring_gap.specs.Blocks.{edge_gap, FromVertices}

-- THE STATEMENT, of every two rings, infinite numbers and NaN too
pub record BetweenTells : Type 0 where
  -- no vertex of the second is nearer to an edge of the first, nor one of the first to an edge of the second
  pub of_second : (ps : List Float) (n : ℕ) (qs : List Float) (m i k : ℕ) → i < m → k < n →
      lt (edge_gap ps n k (vertex_at qs i)) (least_between ps n qs m) ≡ false
  pub of_first : (ps : List Float) (n : ℕ) (qs : List Float) (m i k : ℕ) → i < n → k < m →
      lt (edge_gap qs m k (vertex_at ps i)) (least_between ps n qs m) ≡ false
  -- it is one of these gaps, or infinity
  pub one : (ps : List Float) (n : ℕ) (qs : List Float) (m : ℕ) → let x = least_between ps n qs m in
      (x ≡ infinity) ⊎ (FromVertices ps n 0 n qs m x ⊎ FromVertices qs m 0 m ps n x)
  -- whichever is named first
  pub either_way : (ps : List Float) (n : ℕ) (qs : List Float) (m : ℕ) → least_between ps n qs m ≡ least_between qs m ps n
