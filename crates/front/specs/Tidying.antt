-- offset.rs, `Front::tidy`: rings too small, straight vertices, spikes and edges of no length are taken out, one after the other. Assumes
-- nothing.
use Rattle.std.specs.Prelude.{ℕ, Bool, false, cond, not, ◌&&◌, ◌||◌, List, ltb, eqb, Float, Option, Some, None}
use Rattle.std.specs.Float.Ieee.{lt, le}
use Rattle.front.specs.declared.Length.{Length}
use Rattle.front.specs.declared.Tidy.{Tidy}
use Rattle.front.specs.declared.Tidy.TheVariants.{Settled, Empty, Straight, Spike, SmallRing}
use Rattle.plane.specs.declared.PlanarPoint.{PlanarPoint}
use Rattle.front.specs.declared.Edge.{Edge}
use Rattle.front.specs.declared.Front.{Front}
use Rattle.front.specs.declared.Moving.{Moving}
use Rattle.math.specs.Number.{add, mul, one, zero_float, abs, div, two}
use Rattle.front.specs.Thresholds.{on_edge, tie, parallel, opposite}
use Rattle.plane.specs.Plane.{dot, cross}
use Rattle.front.specs.Edges.{edge_length, edge, edge_line, ring_len, kill, anchor, then_remove, set_start, remove, altered}
use Rattle.front.specs.Edges.{stalled, vertex, collapse}
use Rattle.front.specs.Lines.{direction, meeting}
use Rattle.base.specs.Loop.{rounds}

-- ---- `tidy_once`, its search: the first live slot at which something is to be taken out, and what

-- `Tidy::Empty`: an edge of no length that does not grow; a slot whose vertex has no velocity is skipped, and that is no error
unfoldable pub empty : Float → Float → Float → Bool
empty t l rate = le l (mul on_edge (add one t)) && le rate tie

unfoldable pub tidy_length : ℕ → Float → Option Length → Tidy
tidy_length slot t None = Settled
tidy_length slot t (Some l) = cond (empty t l.value l.rate) (Empty slot) Settled

-- `Tidy::Parallel`: an edge and its next on one line, facing opposite ways (a spike) or the same way (a straight vertex)
unfoldable pub opposed : PlanarPoint → PlanarPoint → Bool
opposed u w = lt (add one (dot u w)) opposite

unfoldable pub same_way : PlanarPoint → PlanarPoint → Bool
same_way u w = lt (abs (cross u w)) parallel && lt zero_float (dot u w)

unfoldable pub tidy_corner : List Edge → ℕ → Float → PlanarPoint → PlanarPoint → Tidy
tidy_corner f slot t u w = cond (opposed u w) (Spike slot) (cond (same_way u w) (Straight slot) (tidy_length slot t (edge_length f slot t)))

-- `Tidy::Ring`: a ring of fewer than three edges
unfoldable pub few : ℕ → Bool
few n = ltb n 3

unfoldable pub tidy_edge : List Edge → ℕ → Float → Edge → Tidy
tidy_edge f slot t e =
    cond (few (ring_len f slot)) (SmallRing slot)
    (tidy_corner f slot t (direction (edge_line e)) (direction (edge_line (edge f e.next))))

unfoldable pub tidy_at : List Edge → ℕ → Float → Edge → Tidy
tidy_at f slot t e = cond e.alive (tidy_edge f slot t e) Settled

-- the first finding stands
unfoldable pub unless_found : Tidy → Tidy → Tidy
unless_found Settled x = x
unless_found (SmallRing k) x = SmallRing k
unless_found (Straight k) x = Straight k
unless_found (Spike k) x = Spike k
unless_found (Empty k) x = Empty k

unfoldable pub find_step : List Edge → Float → ℕ → Tidy → Tidy
find_step f t slot s = unless_found s (tidy_at f slot t (edge f slot))

unfoldable pub find_tidy : List Edge → Float → Tidy
find_tidy f t = rounds (find_step f t) 128 Settled

-- ---- `tidy_once`, what it does

-- a ring too small is dropped whole, from its slot on: the walk ends where it comes round or meets a dead edge
pub record Drop : Type 0 where
  pub edges : List Edge
  pub at : ℕ
  pub closed : Bool

unfoldable pub drop_on : ℕ → ℕ → List Edge → Drop
drop_on slot next f = record { edges = f; at = next; closed = eqb next slot || not (edge f next).alive }

unfoldable pub drop_step : ℕ → ℕ → Drop → Drop
drop_step slot k s = cond s.closed s (drop_on slot (edge s.edges s.at).next (kill s.edges s.at))

unfoldable pub drop_ring : List Edge → ℕ → List Edge
drop_ring f slot = (rounds (drop_step slot) 128 (record { edges = f; at = slot; closed = false })).edges

-- a straight vertex: one line, one edge. The edge that ends there stays, its next goes.
unfoldable pub drop_straight : List Edge → ℕ → Float → Front
drop_straight f next t = then_remove next (anchor f (edge f next).next t)

-- `f64::midpoint`: a midpoint is the sum halved
unfoldable pub midpoint : PlanarPoint → PlanarPoint → PlanarPoint
midpoint p q = record { east = div (add p.east q.east) two; north = div (add p.north q.north) two }

unfoldable pub meeting_or : PlanarPoint → PlanarPoint → Option PlanarPoint → PlanarPoint
meeting_or p q None = midpoint p q
meeting_or p q (Some r) = r

-- a spike, or an inlet of no width: both edges go, and the edges on either side, `before` and `after`, meet afresh
unfoldable pub drop_both : List Edge → ℕ → ℕ → ℕ → PlanarPoint → Float → Front
drop_both f slot next after start t = altered (set_start (remove (remove f next) slot) after start t)

unfoldable pub spike_to : List Edge → ℕ → ℕ → ℕ → ℕ → Float → PlanarPoint → Option Moving → Front
spike_to f slot before next after t p None = stalled f
spike_to f slot before next after t p (Some to) =
    drop_both f slot next after (meeting_or p to.at (meeting (edge_line (edge f before)) (edge_line (edge f after)) t)) t

unfoldable pub spike_from : List Edge → ℕ → ℕ → ℕ → ℕ → Float → Option Moving → Front
spike_from f slot before next after t None = stalled f
spike_from f slot before next after t (Some from) = spike_to f slot before next after t from.at (vertex f after t)

unfoldable pub drop_spike : List Edge → ℕ → ℕ → Float → Front
drop_spike f slot next t = spike_from f slot (edge f slot).previous next (edge f next).next t (vertex f slot t)

unfoldable pub tidy_by : List Edge → Float → Tidy → Front
tidy_by f t Settled = record { edges = f; stalled = false; changed = false }
tidy_by f t (SmallRing slot) = altered (drop_ring f slot)
tidy_by f t (Straight slot) = drop_straight f (edge f slot).next t
tidy_by f t (Spike slot) = drop_spike f slot (edge f slot).next t
tidy_by f t (Empty slot) = collapse f slot t

unfoldable pub tidy_once : List Edge → Float → Front
tidy_once f t = tidy_by f t (find_tidy f t)

-- ---- `tidy`: 129 steps at most, until one changes nothing or meets a vertex without a velocity

unfoldable pub tidy_step : Float → ℕ → Front → Front
tidy_step t k s = cond (s.changed && not s.stalled) (tidy_once s.edges t) s

unfoldable pub tidy : List Edge → Float → Front
tidy f t = rounds (tidy_step t) 129 (altered f)

-- opens every definition above, for a proof that computes with all of them
unfoldable pub open_tidying : Unit {0}
unfolding empty tidy_length opposed same_way tidy_corner few tidy_edge tidy_at unless_found find_step find_tidy drop_on drop_step drop_ring
    drop_straight midpoint meeting_or drop_both spike_to spike_from drop_spike tidy_by tidy_once tidy_step tidy
open_tidying = tt
