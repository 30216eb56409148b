-- The search for the next event as the code holds it: what it has found, in scalars, and what one round reads of the edges, by value.
-- Assumes nothing.
use Rattle.std.specs.Prelude.{ℕ, ◌+◌, Bool, false, cond, not, ◌&&◌, ◌||◌, List, Float, Option, Some, None}
use Rattle.std.specs.Float.Ieee.{lt, le, neg}
use Rattle.plane.specs.declared.PlanarPoint.{PlanarPoint}
use Rattle.front.specs.declared.Edge.{Edge}
use Rattle.front.specs.declared.Line.{Line}
use Rattle.front.specs.declared.Moving.{Moving}
use Rattle.front.specs.declared.Length.{Length}
use Rattle.front.specs.declared.EventSearch.{EventSearch}
use Rattle.front.specs.declared.SoonestCollapse.{SoonestCollapse}
use Rattle.front.specs.declared.SoonestSplit.{SoonestSplit}
use Rattle.front_events.specs.declared.Gone.{Gone}
use Rattle.front_events.specs.declared.Look.{Look}
use Rattle.math.specs.Number
use Rattle.math.specs.Number.{add, zero_float, div, one, fmax}
use Rattle.plane.specs.Plane.{dot, cross}
use Rattle.front.specs.Lines.{direction, normal, velocity}
use Rattle.front.specs.Edges.{edge, edge_line, vertex_by, moved_by}
use Rattle.front.specs.NextEvent.{hit_within}
use Rattle.base.specs.Loop.{rounds}
use Rattle.front_lines.specs.Between.{length_between}

-- ---- what the search has found, while no vertex without a velocity was met

unfoldable pub collapse_of : Bool → ℕ → Float → Option SoonestCollapse
collapse_of shrinks gone soon = cond shrinks (Some (record { edge = gone; step = soon })) None

unfoldable pub split_of : Bool → ℕ → ℕ → Float → Option SoonestSplit
split_of splits vertex hit step = cond splits (Some (record { vertex = vertex; edge = hit; step = step })) None

unfoldable pub search_of : Bool → ℕ → Float → Bool → ℕ → ℕ → Float → EventSearch
search_of shrinks gone soon splits vertex hit step =
    record { stalled = false; collapse = collapse_of shrinks gone soon; split = split_of splits vertex hit step }

-- ---- a vertex at p with velocity v, against an edge

-- how fast it leaves the edge's line behind, and after which step it is there, at this speed
unfoldable pub closing : Edge → PlanarPoint → Float
closing target v = Number.sub (dot (normal (edge_line target)) v) one

unfoldable pub step_to : Edge → PlanarPoint → Float → Float → Float
step_to target p t speed = div (Number.sub (add (edge_line target).c t) (dot (normal (edge_line target)) p)) speed

-- whether it hits the edge at p, the edge's two vertices being there
unfoldable pub strike : Edge → PlanarPoint → Option Moving → Option Moving → Option Bool
strike target p None to = None
strike target p (Some from) None = None
strike target p (Some from) (Some to) = Some (hit_within (direction (edge_line target)) p from.at to.at)

-- ---- a live edge

-- whether it is gone sooner than the soonest so far, and after which step
unfoldable pub shrink : Length → Bool → Float → Gone
shrink l shrinks soon =
    record {
      sooner = lt l.rate zero_float && (not shrinks || lt (div (fmax l.value zero_float) (neg l.rate)) soon);
      step = div (fmax l.value zero_float) (neg l.rate);
    }

-- whether the front turns right there
unfoldable pub reflex : Line → Line → Bool
reflex a b = not (le zero_float (cross (direction a) (direction b)))

-- ---- a round of each loop, by the edges that it reads: an edge, its next, and the edge before each of them

unfoldable pub start_of : Edge → Edge → Float → Option Moving
start_of before e t = vertex_by e t (velocity (edge_line before) (edge_line e))

unfoldable pub look_by : Moving → Bool → Bool → Float → Option Length → Option Look
look_by start right shrinks soon None = None
look_by start right shrinks soon (Some l) = Some (record { gone = shrink l shrinks soon; start = start; reflex = right })

unfoldable pub look_from : Edge → Edge → Option Moving → Option Moving → Bool → Float → Option Look
look_from before e None to shrinks soon = None
look_from before e (Some start) to shrinks soon =
    look_by start (reflex (edge_line before) (edge_line e)) shrinks soon (length_between e (Some start) to)

unfoldable pub look_of : Edge → Edge → Edge → Edge → Float → Bool → Float → Option Look
look_of before e back after t shrinks soon = look_from before e (start_of before e t) (start_of back after t) shrinks soon

unfoldable pub strike_at : Edge → Edge → Edge → Edge → PlanarPoint → PlanarPoint → Float → Float → Option Bool
strike_at before target back after p v step t =
    strike target (moved_by p v step) (start_of before target (add t step)) (start_of back after (add t step))

-- ---- the slots that the search goes through: past the last live one no round changes anything

unfoldable pub used_step : List Edge → ℕ → ℕ → ℕ
used_step f k used = cond (edge f k).alive (k + 1) used

unfoldable pub used_slots : List Edge → ℕ
used_slots f = rounds (used_step f) 128 0

-- opens every definition above, for a proof that computes with all of them
unfoldable pub open_found : Unit {0}
unfolding collapse_of split_of search_of closing step_to strike shrink reflex start_of look_by look_from look_of strike_at
    used_step used_slots
open_found = tt
