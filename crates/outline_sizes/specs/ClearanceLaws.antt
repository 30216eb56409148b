-- R-1: what the clearance of two outlines is, of all numbers that are handed in. Proved in `proofs/ClearanceLaws.antt`. Assumes nothing.
use Rattle.std.specs.Prelude.{ℕ, ◌<◌, ◌⊎◌, ◌≡◌, true, false, List, Float}
use Rattle.std.specs.Float.Ieee.{lt}
use Rattle.math.specs.Number.{zero_float}
use Rattle.error.specs.declared.Refusal.TheVariants.{Granted, Shape}
use Rattle.ring.specs.Ring.{vertex_at}
use Rattle.ring_cross.specs.Meet.{rings_meet}
use Rattle.ring_gap.specs.Blocks.{edge_gap, FromVertices}
use Rattle.outline.specs.Outlines.{proper}
use Rattle.outline_ask.specs.Queries.{clearance}

-- THE STATEMENT
pub record ClearanceTells : Type 0 where
  -- the same answer, bit for bit, whichever outline is named first, refusals too
  pub either_way : (ps : List Float) (n : ℕ) (qs : List Float) (m : ℕ) → clearance ps n qs m ≡ clearance qs m ps n
  -- outlines that pass 21 are answered
  pub answered : (ps : List Float) (n : ℕ) (qs : List Float) (m : ℕ) → proper 128 ps n ≡ true → proper 128 qs m ≡ true →
      (clearance ps n qs m).refusal ≡ Granted
  -- and no others: 21 of the first, and of the second
  pub first_refused : (ps : List Float) (n : ℕ) (qs : List Float) (m : ℕ) → proper 128 ps n ≡ false →
      (clearance ps n qs m).refusal ≡ Shape
  pub second_refused : (ps : List Float) (n : ℕ) (qs : List Float) (m : ℕ) → proper 128 qs m ≡ false →
      (clearance ps n qs m).refusal ≡ Shape
  -- 0 where the rings meet
  pub met : (ps : List Float) (n : ℕ) (qs : List Float) (m : ℕ) → rings_meet ps n qs m ≡ true →
      (clearance ps n qs m).value ≡ zero_float
  -- no vertex of the second is nearer to an edge of the first, the closing one included, nor one of the first to an edge of the second
  pub of_second : (ps : List Float) (n : ℕ) (qs : List Float) (m i k : ℕ) → i < m → k < n →
      lt (edge_gap ps n k (vertex_at qs i)) (clearance ps n qs m).value ≡ false
  pub of_first : (ps : List Float) (n : ℕ) (qs : List Float) (m i k : ℕ) → i < n → k < m →
      lt (edge_gap qs m k (vertex_at ps i)) (clearance ps n qs m).value ≡ false
  -- and where outlines that pass 21 do not meet it is one of these gaps
  pub one : (ps : List Float) (n : ℕ) (qs : List Float) (m : ℕ) → proper 128 ps n ≡ true → proper 128 qs m ≡ true →
      rings_meet ps n qs m ≡ false → let x = (clearance ps n qs m).value in
      FromVertices ps n 0 n qs m x ⊎ FromVertices qs m 0 m ps n x
