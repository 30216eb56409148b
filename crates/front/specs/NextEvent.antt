-- offset.rs, `Front::next_event`: the soonest collapse and the soonest split. Assumes nothing.
use Rattle.std.specs.Prelude.{ℕ, Bool, true, false, cond, not, ◌&&◌, ◌||◌, List, eqb, Float, Option, Some, None}
use Rattle.std.specs.Float.Ieee.{lt, le, neg}
use Rattle.front.specs.declared.EventSearch.{EventSearch}
use Rattle.front.specs.declared.SoonestSplit.{SoonestSplit}
use Rattle.front.specs.declared.SoonestCollapse.{SoonestCollapse}
use Rattle.plane.specs.declared.PlanarPoint.{PlanarPoint}
use Rattle.front.specs.declared.Moving.{Moving}
use Rattle.front.specs.declared.Edge.{Edge}
use Rattle.front.specs.declared.Length.{Length}
use Rattle.front.specs.declared.Event.{Event}
use Rattle.front.specs.declared.Event.TheVariants.{Never, Collapse, Split, Stalled}
use Rattle.math.specs.Number
use Rattle.front.specs.Edges.{vertex, moved_by, edge, edge_line, edge_length}
use Rattle.front.specs.Thresholds.{on_edge, tie}
use Rattle.plane.specs.Plane.{sub, dot, cross}
use Rattle.front.specs.Lines.{direction, normal}
use Rattle.math.specs.Number.{add, zero_float, div, one, fmax, mul}
use Rattle.base.specs.Loop.{rounds}

-- ---- what the search has found

-- a vertex without a velocity: the Rust's `None`
unfoldable pub look_stalled : EventSearch → EventSearch
look_stalled s = record { stalled = true; collapse = s.collapse; split = s.split }

unfoldable pub look_split : EventSearch → SoonestSplit → EventSearch
look_split s h = record { stalled = s.stalled; collapse = s.collapse; split = Some h }

unfoldable pub look_collapse : EventSearch → SoonestCollapse → EventSearch
look_collapse s c = record { stalled = s.stalled; collapse = Some c; split = s.split }

-- the first of the soonest collapses
unfoldable pub sooner : ℕ → Float → Option SoonestCollapse → SoonestCollapse
sooner slot step None = record { edge = slot; step = step }
sooner slot step (Some c) = cond (lt step c.step) (record { edge = slot; step = step }) c

-- a split no sooner than the one in hand is passed over
unfoldable pub late : Float → Option SoonestSplit → Bool
late step None = false
late step (Some h) = le h.step step

-- ---- the inner loop: the start vertex of the edge at `slot`, at p with velocity v, against the edge `target` at `other`

-- where the vertex comes to the edge's line, it hits the edge: p is between its ends, with the slack
unfoldable pub hit_within : PlanarPoint → PlanarPoint → PlanarPoint → PlanarPoint → Bool
hit_within u p from to = le (neg on_edge) (dot u (sub p from)) && le (neg on_edge) (dot u (sub to p))

unfoldable pub hit_to : ℕ → ℕ → PlanarPoint → Float → PlanarPoint → PlanarPoint → EventSearch → Option Moving →
    EventSearch
hit_to slot other u step p from s None = look_stalled s
hit_to slot other u step p from s (Some to) =
    cond (hit_within u p from to.at) (look_split s (record { vertex = slot; edge = other; step = step })) s

unfoldable pub hit_from : List Edge → ℕ → ℕ → Edge → Float → Float → PlanarPoint → EventSearch → Option Moving →
    EventSearch
hit_from f slot other target step at p s None = look_stalled s
hit_from f slot other target step at p s (Some from) =
    hit_to slot other (direction (edge_line target)) step p from.at s (vertex f target.next at)

unfoldable pub hit_then : List Edge → Float → ℕ → ℕ → Edge → PlanarPoint → PlanarPoint → Float → EventSearch →
    EventSearch
hit_then f t slot other target p v step s =
    hit_from f slot other target step (add t step) (moved_by p v step) s (vertex f other (add t step))

-- the step is not below 0, and sooner than the split in hand
unfoldable pub hit_after : List Edge → Float → ℕ → ℕ → Edge → PlanarPoint → PlanarPoint → Float → EventSearch →
    EventSearch
hit_after f t slot other target p v step s =
    cond (lt step zero_float || late step s.split) s (hit_then f t slot other target p v step s)

-- the vertex closes in on the edge's line; the step to it
unfoldable pub hit_closing : List Edge → Float → ℕ → ℕ → Edge → PlanarPoint → PlanarPoint → Float → EventSearch →
    EventSearch
hit_closing f t slot other target p v closing s =
    cond (le zero_float closing) s
    (hit_after f t slot other target p v (div (Number.sub (add (edge_line target).c t) (dot (normal (edge_line target)) p)) closing) s)

unfoldable pub hit_at : List Edge → Float → ℕ → ℕ → Edge → PlanarPoint → PlanarPoint → EventSearch → EventSearch
hit_at f t slot other target p v s = hit_closing f t slot other target p v (Number.sub (dot (normal (edge_line target)) v) one) s

-- whether the edge at `other` can be hit by the start vertex of the edge at `slot`: it is alive, and neither of the vertex's own two edges
unfoldable pub candidate : ℕ → ℕ → ℕ → Edge → EventSearch → Bool
candidate slot before other target s = not s.stalled && (target.alive && (not (eqb other slot) && not (eqb other before)))

unfoldable pub hit_step : List Edge → Float → ℕ → ℕ → PlanarPoint → PlanarPoint → ℕ → EventSearch → EventSearch
hit_step f t slot before p v other s =
    cond (candidate slot before other (edge f other) s) (hit_at f t slot other (edge f other) p v s) s

unfoldable pub hits : List Edge → Float → ℕ → ℕ → PlanarPoint → PlanarPoint → EventSearch → EventSearch
hits f t slot before p v s = rounds (hit_step f t slot before p v) 128 s

-- ---- the outer loop: one live edge e at `slot`, whose start vertex is at p with velocity v

-- a start vertex where the front turns right is reflex: only such a one splits
unfoldable pub look_corner : List Edge → Float → ℕ → Edge → PlanarPoint → PlanarPoint → EventSearch → EventSearch
look_corner f t slot e p v s =
    cond (le zero_float (cross (direction (edge_line (edge f e.previous))) (direction (edge_line e)))) s
    (hits f t slot e.previous p v s)

-- an edge that shrinks is gone after its length, or 0 if that is below, over its pace
unfoldable pub shrinking : ℕ → Float → Float → EventSearch → EventSearch
shrinking slot l rate s = cond (lt rate zero_float) (look_collapse s (sooner slot (div (fmax l zero_float) (neg rate)) s.collapse)) s

unfoldable pub look_length : List Edge → Float → ℕ → Edge → PlanarPoint → PlanarPoint → EventSearch → Option Length →
    EventSearch
look_length f t slot e p v s None = look_stalled s
look_length f t slot e p v s (Some l) = look_corner f t slot e p v (shrinking slot l.value l.rate s)

unfoldable pub look_vertex : List Edge → Float → ℕ → Edge → EventSearch → Option Moving → EventSearch
look_vertex f t slot e s None = look_stalled s
look_vertex f t slot e s (Some m) = look_length f t slot e m.at m.velocity s (edge_length f slot t)

unfoldable pub look_at : List Edge → Float → ℕ → Edge → EventSearch → EventSearch
look_at f t slot e s = cond (not s.stalled && e.alive) (look_vertex f t slot e s (vertex f slot t)) s

unfoldable pub look_step : List Edge → Float → ℕ → EventSearch → EventSearch
look_step f t slot s = look_at f t slot (edge f slot) s

unfoldable pub look : List Edge → Float → EventSearch
look f t = rounds (look_step f t) 128 (record { stalled = false; collapse = None; split = None })

-- ---- the event

-- A split goes before a collapse only if its step < collapse step - 1e-12 × (1 + t). Where there is neither, the Rust gives an edge event
-- infinitely far, which ends the walk; here that is `Never`, and that the two agree at every stage is in `Demand` (`never`).
unfoldable pub choose : Float → Option SoonestCollapse → Option SoonestSplit → Event
choose t None None = Never
choose t None (Some h) = Split h.vertex h.edge h.step
choose t (Some c) None = Collapse c.edge c.step
choose t (Some c) (Some h) =
    cond (lt h.step (Number.sub c.step (mul tie (add one t)))) (Split h.vertex h.edge h.step) (Collapse c.edge c.step)

unfoldable pub event_of : Float → EventSearch → Event
event_of t s = cond s.stalled Stalled (choose t s.collapse s.split)

unfoldable pub next_event : List Edge → Float → Event
next_event f t = event_of t (look f t)

-- opens every definition above, for a proof that computes with all of them
unfoldable pub open_next_event : Unit {0}
unfolding look_stalled look_split look_collapse sooner late hit_within hit_to hit_from hit_then hit_after hit_closing hit_at candidate
    hit_step hits look_corner shrinking look_length look_vertex look_at look_step look choose event_of next_event
open_next_event = tt
