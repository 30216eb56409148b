-- R-3: "Yes stays yes and no stays no, for every pair of rings. A yes now comes with its pair." Proved in `proofs/PairLaws.antt`. Assumes
-- nothing.
use Rattle.std.specs.Prelude.{ℕ, ◌≤◌, ◌<◌, ◌≡◌, true, List, Float}
use Rattle.std.specs.Option.{is_some}
use Rattle.segment.specs.Segments.{segments_meet}
use Rattle.ring.specs.Ring.{vertex_at, edge_end}
use Rattle.ring_cross.specs.EdgePairs.{edges}
use Rattle.ring_cross.specs.Meet.{rings_meet}
use Rattle.ring_cross.specs.Pair.{ring_pair}

-- edge i of the one ring and edge k of the other meet
abbrev pub EdgesMeet : List Float → ℕ → List Float → ℕ → ℕ → ℕ → Type 0
EdgesMeet ps n qs m i k = segments_meet (vertex_at ps i) (edge_end ps n i) (vertex_at qs k) (edge_end qs m k) ≡ true

-- "the lowest edge of the outer walk that meets any, then the lowest edge of the inner walk that it meets", ps in the outer walk
pub record LowestPair (ps : List Float) (n : ℕ) (qs : List Float) (m i k : ℕ) : Type 0 where
  pub outer : i < n
  pub inner : k < m
  pub meet : EdgesMeet ps n qs m i k
  pub lowest_outer : (j l : ℕ) → j < i → l < m → EdgesMeet ps n qs m j l → ⊥
  pub lowest_inner : (l : ℕ) → l < k → EdgesMeet ps n qs m i l → ⊥

-- THE STATEMENT, of every two rings, whatever their numbers are, infinite and NaN too
pub record PairTells : Type 0 where
  -- yes exactly where it was yes, by either name first
  pub as_before : (ps : List Float) (n : ℕ) (qs : List Float) (m : ℕ) → is_some (ring_pair ps n qs m) ≡ rings_meet ps n qs m
  pub either_way : (ps : List Float) (n : ℕ) (qs : List Float) (m : ℕ) → rings_meet qs m ps n ≡ rings_meet ps n qs m
  -- of equal counts, or the first ring's the fewer, the first is outer
  pub first_outer : (ps : List Float) (n : ℕ) (qs : List Float) (m i k : ℕ) → n ≤ m →
      ring_pair ps n qs m ≡ edges i k → LowestPair ps n qs m i k
  pub first_told : (ps : List Float) (n : ℕ) (qs : List Float) (m i k : ℕ) → n ≤ m →
      LowestPair ps n qs m i k → ring_pair ps n qs m ≡ edges i k
  -- else the second is, and its edge stands first
  pub second_outer : (ps : List Float) (n : ℕ) (qs : List Float) (m i k : ℕ) → m < n →
      ring_pair ps n qs m ≡ edges i k → LowestPair qs m ps n i k
  pub second_told : (ps : List Float) (n : ℕ) (qs : List Float) (m i k : ℕ) → m < n →
      LowestPair qs m ps n i k → ring_pair ps n qs m ≡ edges i k
