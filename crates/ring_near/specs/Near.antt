-- polygon.rs, `nearest`: the nearest point of the boundary. Assumes nothing.
use Rattle.std.specs.Prelude.{ℕ, Bool, cond, ◌&&◌, List, Float}
use Rattle.std.specs.Float.Ieee.{lt, of_bits}
use Rattle.std.specs.Float.{binary64}
use Rattle.ring_near.specs.declared.Nearest.{Nearest}
use Rattle.ring_near.specs.declared.Lead.{Lead}
use Rattle.plane.specs.declared.PlanarPoint.{PlanarPoint}
use Rattle.plane.specs.Plane.{sub, dot, same}
use Rattle.segment.specs.Segments.{closest_on_segment}
use Rattle.plane.specs.Points.{length_of}
use Rattle.ring.specs.Ring.{vertex_at, edge_end}
use Rattle.base.specs.Loop.{rounds}
use Rattle.math.specs.Number.{infinity, zero_float, mul}

unfoldable pub nearer : Nearest → Nearest → Nearest
nearer candidate best = cond (lt candidate.gap best.gap) candidate best

unfoldable pub gap_to : PlanarPoint → PlanarPoint → Nearest
gap_to p q = record { gap = length_of (sub q p); foot = q }

unfoldable pub nearest_step : List Float → ℕ → PlanarPoint → ℕ → Nearest → Nearest
nearest_step ps n p k best = nearer (gap_to p (closest_on_segment p (vertex_at ps k) (edge_end ps n k))) best

abbrev pub none_yet : PlanarPoint → Nearest
none_yet p = record { gap = infinity; foot = p }

unfoldable pub nearest : List Float → ℕ → PlanarPoint → Nearest
nearest ps n p = rounds (nearest_step ps n p) n (none_yet p)

-- ---- the walk of the code, which takes roots only where two squared lengths are close
-- A lead is the nearest foot so far, the vector from p to it, and that vector's squared length as computed.

-- 1 + 2 ^ -30
abbrev pub more : Float
more = of_bits binary64 0x3ff0000000400000

-- 2 ^ -1000
abbrev pub tiny : Float
tiny = of_bits binary64 0x0170000000000000

-- of two squared lengths as computed, w is clearly the larger
unfoldable pub clearly : Float → Float → Bool
clearly v w = lt (mul more v) w && lt tiny w

unfoldable pub lead_to : PlanarPoint → PlanarPoint → Lead
lead_to p q = record { offset = sub q p; square = dot (sub q p) (sub q p); foot = q }

-- before the first edge: p itself, infinitely far
unfoldable pub no_lead : PlanarPoint → Lead
no_lead p = record { offset = record { east = infinity; north = zero_float }; square = infinity; foot = p }

-- by the roots, of which equal vectors need none
unfoldable pub closer : Lead → Lead → Lead
closer candidate best =
    cond (same candidate.offset best.offset) best
    (cond (lt (length_of candidate.offset) (length_of best.offset)) candidate best)

unfoldable pub leader : Lead → Lead → Lead
leader candidate best =
    cond (clearly best.square candidate.square) best
    (cond (clearly candidate.square best.square) candidate (closer candidate best))

-- the lead after the edge ab
unfoldable pub lead_between : PlanarPoint → PlanarPoint → PlanarPoint → Lead → Lead
lead_between p a b best = leader (lead_to p (closest_on_segment p a b)) best

unfoldable pub lead_step : List Float → ℕ → PlanarPoint → ℕ → Lead → Lead
lead_step ps n p k best = lead_between p (vertex_at ps k) (edge_end ps n k) best

-- what a lead stands for
unfoldable pub reached : Lead → Nearest
reached s = record { gap = length_of s.offset; foot = s.foot }

-- opens every definition above, for a proof that computes with all of them
unfoldable pub open_near : Unit {0}
unfolding nearer gap_to nearest_step nearest clearly lead_to no_lead closer leader lead_between lead_step reached
open_near = tt
