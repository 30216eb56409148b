-- R-9 of a whole ring: "Two segments with finite ends are then reported as meeting if and only if they share a point." So a ring is
-- told to be simple only where no two of its edges that are no neighbours share a point, and a pair that is named does share one, or
-- folds back. Proved in `proofs/SimpleExact.antt`. Assumes nothing.
use Rattle.std.specs.Prelude.{ℕ, ◌+◌, ◌<◌, ◌≡◌, Bool, true, List, Float, None}
use Rattle.turn.specs.Turns.{Finite}
use Rattle.segment.specs.Segments.{folds_back}
use Rattle.segment.specs.Meeting.{Shared}
use Rattle.ring.specs.Ring.{following, stored_at}
use Rattle.ring_cross.specs.EdgePairs.{edges}
use Rattle.ring_cross.specs.Simple.{check_simple}

-- every number of the stored ring is a finite double
abbrev pub FiniteRing : List Float → ℕ → Bool → Type 0
FiniteRing ps n back = (k : ℕ) → k < n → Finite (stored_at ps n back k)

-- edge i, from vertex i to the next, and edge j have a point in common, in exact numbers
abbrev pub EdgesShare : List Float → ℕ → Bool → ℕ → ℕ → Type 0
EdgesShare ps n back i j =
    Shared (stored_at ps n back i) (stored_at ps n back (following n i)) (stored_at ps n back j) (stored_at ps n back (following n j))

-- edges i and j of n, i the lower, have no end in common
pub record Strangers (n i j : ℕ) : Type 0 where
  pub later : i + 1 < j
  pub within : j < n
  -- the first edge begins where the last one ends
  pub unless_round : i ≡ 0 → j + 1 ≡ n → ⊥

-- edges i and j of n, i the lower, have an end in common, and they overlap there as `folds_back` has it: j comes next after i, or they are
-- the first and the last
pub data Folded (ps : List Float) (n : ℕ) (back : Bool) (i j : ℕ) : Type 0 where
  next : j ≡ i + 1
      → folds_back (stored_at ps n back (following n i)) (stored_at ps n back i) (stored_at ps n back (following n j)) ≡ true
      → Folded ps n back i j
  round : i ≡ 0 → 1 < j → j + 1 ≡ n
      → folds_back (stored_at ps n back i) (stored_at ps n back (following n i)) (stored_at ps n back j) ≡ true
      → Folded ps n back i j

-- why a pair was named
pub data Why (ps : List Float) (n : ℕ) (back : Bool) (i j : ℕ) : Type 0 where
  shared : Strangers n i j → EdgesShare ps n back i j → Why ps n back i j
  folded : Folded ps n back i j → Why ps n back i j

-- THE STATEMENT, of the ring as it is stored
pub record SimpleExact : Type 0 where
  pub simple : (ps : List Float) (n : ℕ) (back : Bool) → FiniteRing ps n back → check_simple ps n back ≡ None
      → (i j : ℕ) → Strangers n i j → EdgesShare ps n back i j → ⊥
  pub unfolded : (ps : List Float) (n : ℕ) (back : Bool) → check_simple ps n back ≡ None
      → (i j : ℕ) → i < j → j < n → Folded ps n back i j → ⊥
  pub named : (ps : List Float) (n : ℕ) (back : Bool) → FiniteRing ps n back
      → (i j : ℕ) → check_simple ps n back ≡ edges i j → Why ps n back i j
