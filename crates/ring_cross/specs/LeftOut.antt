-- What the walk of two rings leaves out: edges of the inner ring that no edge of the outer one meets, since they lie beside its box.
-- Assumes nothing.
use Rattle.std.specs.Prelude.{ℕ, zero, suc, ◌+◌, ◌≤◌, ◌<◌, ◌≡◌, false, cond, List, ltb, length, get_or, Float}
use Rattle.plane.specs.declared.PlanarPoint.{PlanarPoint}
use Rattle.turn.specs.Turns.{DoublePoint}
use Rattle.segment.specs.Segments.{segments_meet}
use Rattle.segment.specs.Boxes.{Within}
use Rattle.ring.specs.Ring.{vertex_at, edge_end}

-- no vertex of the ring lies outside of the box from l to h
pub record Framed (ps : List Float) (n : ℕ) (l h : PlanarPoint) : Type 0 where
  pub doubles : (k : ℕ) → k < n → DoublePoint (vertex_at ps k)
  pub within : (k : ℕ) → k < n → Within l h (vertex_at ps k)

-- edge k of the ring does not meet the segment from a1 to a2
abbrev pub Missed : List Float → ℕ → PlanarPoint → PlanarPoint → ℕ → Type 0
Missed qs m a1 a2 k = segments_meet a1 a2 (vertex_at qs k) (edge_end qs m k) ≡ false

-- it meets no segment in the box from l to h
abbrev pub MissedBy : List Float → ℕ → PlanarPoint → PlanarPoint → ℕ → Type 0
MissedBy qs m l h k =
    (a1 a2 : PlanarPoint) → DoublePoint a1 → DoublePoint a2 → Within l h a1 → Within l h a2 → Missed qs m a1 a2 k

-- where the stretch before entry t of a list begins: after the entry before
unfoldable pub stretch_from : List ℕ → ℕ → ℕ
stretch_from xs zero = 0
stretch_from xs (suc t) = get_or xs t 0 + 1

-- and where it ends: at the entry, or behind the last one at `stop`
unfoldable pub stretch_to : List ℕ → ℕ → ℕ → ℕ → ℕ
stretch_to xs count stop t = cond (ltb t count) (get_or xs t 0) stop

-- the first `count` entries of a list are numbers below `stop`, rising, and P holds of every number below `stop` that is not among them
pub record Lists (P : ℕ → Type 0) (xs : List ℕ) (count stop : ℕ) : Type 0 where
  pub room : count ≤ length xs
  pub rising : (t : ℕ) → t < count → stretch_from xs t ≤ get_or xs t 0
  pub below : (t : ℕ) → t < count → get_or xs t 0 < stop
  pub left_out : (t : ℕ) → t ≤ count → (k : ℕ) → stretch_from xs t ≤ k → k < stretch_to xs count stop t → P k

-- the same, of a ring of m edges
pub record ListsTo (m : ℕ) (P : ℕ → Type 0) (xs : List ℕ) (count stop : ℕ) : Type 0 where
  pub within : stop ≤ m
  pub lists : Lists P xs count stop
