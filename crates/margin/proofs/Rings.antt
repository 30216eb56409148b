-- A ring's vertices keep the margin from another's edges, where no computed gap is below distance - 1e-9 × (1 + distance + extent) as
-- computed. Assumes nothing.
use mathlib.Core.Path.{◌≡◌}
use mathlib.Core.Bool.{false}
use mathlib.Core.List.{List}
use Prim.Native.Nat.{ℕ, ◌+◌, ◌*◌, ◌^◌, ◌≤◌, ◌<◌}
use native.Mathlib.Omega.{arith}
use lib.ListN.{get_or}
use lib.Ieee.{Float, nan, lt}
use lib.Ieee.Exact.{HasValue}
use Rattle.math.specs.Number
use Rattle.math.specs.Number.{one, add, mul}
use Rattle.margins.specs.Far.{over, magnitude}
use Rattle.margins.proofs.Points.{Point, Reach, Least, far_edge}
use Rattle.margins.proofs.Reached.{least_of}
use Rattle.ring.specs.Ring.{vertex_at, following, edge_end}
use Rattle.ring.proofs.Vertices.{following_lt}
use Rattle.ring_near.specs.Near.{gap_to}
use Rattle.outline.specs.Outlines.{relative_tolerance}
use Rattle.margin.specs.Margin.{RingFar}
use Rattle.margin.proofs.Sizes.{Sound, Moved, fine_sum}
use Rattle.margin.proofs.Gaps.{edge_gap}

-- the number that a gap has to reach, as the last check computes it
abbrev pub asked : Float → Float → Float
asked d extent = Number.sub d (mul relative_tolerance (add (add one d) extent))

-- a distance past 13 and 14, an extent past 21
pub record Measured (d extent : Float) : Type 0 where
  pub moved : Moved d
  pub value : HasValue extent false (over extent) (2 ^ 1074)
  pub small : over extent ≤ 1000000000 * 2 ^ 1074

-- ---- a vertex

vertex_point : (ps : List Float) (n : ℕ) → Sound ps n → (k : ℕ) → k < n → Point (vertex_at ps k)
unfolding vertex_at
vertex_point ps n s k l =
    record {
      east_fits = s.doubles (2 * k);
      east_finite = (s.fine (2 * k) (omega arith)).finite;
      north_fits = s.doubles (2 * k + 1);
      north_finite = (s.fine (2 * k + 1) (omega arith)).finite;
    }

vertex_reach : (ps : List Float) (n M : ℕ) → ((k : ℕ) → k < 2 * n → magnitude (get_or ps k nan) ≤ M) → (k : ℕ) → k < n → Reach (vertex_at ps k) M
unfolding vertex_at
vertex_reach ps n M h k l = record { east = h (2 * k) (omega arith); north = h (2 * k + 1) (omega arith) }

-- ---- two rings

module _ (d extent : Float) (m : Measured d extent) (ps : List Float) (n : ℕ) (source : Sound ps n)
    (within : (k : ℕ) → k < 2 * n → magnitude (get_or ps k nan) ≤ over extent) where
  pub ring_far : (qs : List Float) (c : ℕ) → Sound qs c
      → ((k i : ℕ) → k < c → i < n → lt (edge_gap ps n (vertex_at qs k) i) (asked d extent) ≡ false) → RingFar (over d) (over extent) qs c ps n
  unfolding gap_to edge_end
  ring_far qs c answer gaps k i l h =
      let fine : 2 ^ 1074 + over d + over extent ≤ 2 ^ 1115 = fine_sum (over d) (over extent) m.moved.size m.small in
      let least : Least (asked d extent) (over d) (over extent) =
      least_of d extent (over d) (over extent) m.moved.value m.value fine in
      let j = following n i in
      let g = following_lt n i h in
      far_edge (vertex_at qs k) (vertex_at ps i) (vertex_at ps j) (asked d extent) (over d) (over extent)
      (vertex_point qs c answer k l) (vertex_point ps n source i h) (vertex_point ps n source j g)
      (vertex_reach ps n (over extent) within i h) (vertex_reach ps n (over extent) within j g) least fine (gaps k i l h)
