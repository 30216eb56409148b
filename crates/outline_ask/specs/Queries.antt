-- What is asked of an outline that is handed in, its numbers and how many vertices they are: question 21 first, then 2 of the point, then
-- the value.
-- Beside a refusal stands Outside, 0, (0, 0) or no pair. Assumes nothing.
use Rattle.std.specs.Prelude.{ℕ, Bool, true, false, cond, List, ltb, Float, Option, None, Some}
use Rattle.error.specs.declared.Refusal.{Refusal}
use Rattle.error.specs.declared.Refusal.TheVariants.{Granted}
use Rattle.plane.specs.declared.PlanarPoint.{PlanarPoint}
use Rattle.plane.specs.declared.Containment.{Containment}
use Rattle.plane.specs.declared.Containment.TheVariants.{Outside}
use Rattle.areas.specs.declared.NewArea.{NewArea}
use Rattle.ring_near.specs.declared.Nearest.{Nearest}
use Rattle.ring_cross.specs.declared.EdgePair.{EdgePair}
use Rattle.outline_ask.specs.declared.Placed.{Placed}
use Rattle.outline_ask.specs.declared.Measured.{Measured}
use Rattle.outline_ask.specs.declared.Footed.{Footed}
use Rattle.outline_ask.specs.declared.Neared.{Neared}
use Rattle.outline_ask.specs.declared.Edged.{Edged}
use Rattle.outline_ask.specs.declared.Met.{Met}
use Rattle.math.specs.Number.{zero_float}
use Rattle.math.specs.Number
use Rattle.error.specs.Refusals.{granted}
use Rattle.plane.specs.Points.{check_point, origin}
use Rattle.areas.specs.Areas.{area_if}
use Rattle.ring.specs.Ring.{vertex_at, edge_end}
use Rattle.ring_measure.specs.Measures
use Rattle.ring_contain.specs.Contains.{ring_contains}
use Rattle.ring_near.specs.Near
use Rattle.ring_gap.specs.Gap.{least_between}
use Rattle.ring_cross.specs.Meet.{rings_meet}
use Rattle.ring_cross.specs.Pair.{second_outer, ring_pair}
use Rattle.outline.specs.Outlines.{ask_ring}

-- ---- the answers

unfoldable pub placed : Refusal → Containment → Placed
placed r c = cond (granted r) (record { refusal = Granted; place = c }) (record { refusal = r; place = Outside })

abbrev pub unmeasured : Refusal → Measured
unmeasured r = record { refusal = r; value = zero_float }

unfoldable pub measured : Refusal → Float → Measured
measured r x = cond (granted r) (record { refusal = Granted; value = x }) (unmeasured r)

unfoldable pub footed : Refusal → PlanarPoint → Footed
footed r p = cond (granted r) (record { refusal = Granted; point = p }) (record { refusal = r; point = origin })

unfoldable pub neared : Refusal → Nearest → Neared
neared r n =
    cond (granted r) (record { refusal = Granted; distance = Number.distance n.gap; point = n.foot })
    (record { refusal = r; distance = zero_float; point = origin })

unfoldable pub edged : Refusal → PlanarPoint → PlanarPoint → Edged
edged r a b = cond (granted r) (record { refusal = Granted; start = a; end = b }) (record { refusal = r; start = origin; end = origin })

-- no pair
abbrev pub unmet : Refusal → Met
unmet r = record { refusal = r; meets = false; outer = 0; inner = 0; swapped = false }

unfoldable pub met_by : Option EdgePair → Bool → Met
met_by None swapped = unmet Granted
met_by (Some p) swapped = record { refusal = Granted; meets = true; outer = p.first; inner = p.second; swapped = swapped }

unfoldable pub paired : Refusal → Option EdgePair → Bool → Met
paired r x swapped = cond (granted r) (met_by x swapped) (unmet r)

-- ---- where a point lies, and how far

unfoldable pub contains : List Float → ℕ → PlanarPoint → Placed
contains ps n p = placed (ask_ring ps n (check_point p)) (ring_contains ps n p)

unfoldable pub distance_to_boundary : List Float → ℕ → PlanarPoint → Measured
distance_to_boundary ps n p = measured (ask_ring ps n (check_point p)) (Number.distance (Near.nearest ps n p).gap)

unfoldable pub closest_boundary_point : List Float → ℕ → PlanarPoint → Footed
closest_boundary_point ps n p = footed (ask_ring ps n (check_point p)) (Near.nearest ps n p).foot

-- both of them
unfoldable pub nearest : List Float → ℕ → PlanarPoint → Neared
nearest ps n p = neared (ask_ring ps n (check_point p)) (Near.nearest ps n p)

-- ---- the measures

unfoldable pub area : List Float → ℕ → NewArea
area ps n = area_if (Measures.area ps n) (ask_ring ps n Granted)

unfoldable pub perimeter : List Float → ℕ → Measured
perimeter ps n = measured (ask_ring ps n Granted) (Measures.perimeter ps n)

unfoldable pub extent : List Float → ℕ → Measured
extent ps n = measured (ask_ring ps n Granted) (Measures.extent ps n)

-- R-1: the least gap over the vertices of each ring against the edges of the other, and 0 if the rings meet
unfoldable pub clear_between : List Float → ℕ → List Float → ℕ → Float
clear_between ps n qs m = cond (rings_meet qs m ps n) zero_float (Number.distance (least_between ps n qs m))

-- the clearance of two outlines
unfoldable pub clearance : List Float → ℕ → List Float → ℕ → Measured
clearance ps n qs m = measured (ask_ring ps n (ask_ring qs m Granted)) (clear_between ps n qs m)

-- R-3: whether two outlines meet, with the pair of edges
unfoldable pub meeting : List Float → ℕ → List Float → ℕ → Met
meeting ps n qs m = paired (ask_ring ps n (ask_ring qs m Granted)) (ring_pair ps n qs m) (second_outer n m)

-- ---- the readers `vertices` and `edges`: edge k runs from vertex k to the vertex after it, the last one closing the ring. There is none
-- from n on: it reads (0, 0).

unfoldable pub within : ℕ → ℕ → PlanarPoint → PlanarPoint
within n k v = cond (ltb k n) v origin

unfoldable pub vertex : List Float → ℕ → ℕ → Footed
vertex ps n k = footed (ask_ring ps n Granted) (within n k (vertex_at ps k))

unfoldable pub edge : List Float → ℕ → ℕ → Edged
edge ps n k = edged (ask_ring ps n Granted) (within n k (vertex_at ps k)) (within n k (edge_end ps n k))

-- opens every definition above, for a proof that computes with all of them
unfoldable pub open_queries : Unit {0}
unfolding placed measured footed neared edged met_by paired contains distance_to_boundary closest_boundary_point nearest area perimeter
    extent clear_between clearance meeting within vertex edge
open_queries = tt
