-- offset.rs, `Edge` and `Front`: a list of 128 edges, linked into rings. A slot that was never taken holds the unused edge, which is not
-- alive. A link that leads out of the list reads the unused edge, and none does. Assumes nothing.
use Rattle.std.specs.Prelude.{ℕ, ◌+◌, Bool, true, false, cond, List, ltb, eqb, get_or, set, Float, Option, Some, None}
use Rattle.std.specs.Float.{nan}
use Rattle.front.specs.declared.Edge.{Edge}
use Rattle.front.specs.declared.Line.{Line}
use Rattle.plane.specs.declared.PlanarPoint.{PlanarPoint}
use Rattle.front.specs.declared.Round.{Round}
use Rattle.front.specs.declared.Moving.{Moving}
use Rattle.front.specs.declared.Front.{Front}
use Rattle.front.specs.declared.Length.{Length}
use Rattle.math.specs.Number
use Rattle.math.specs.Number.{zero_float, one, add, mul}
use Rattle.base.specs.Loop.{rounds}
use Rattle.front.specs.Lines.{velocity, direction}
use Rattle.plane.specs.Plane.{sub, dot}

-- ---- edges

-- `Edge::UNUSED`
abbrev pub unused : Edge
unused =
    record {
      line = record { u0 = one; u1 = zero_float; n0 = zero_float; n1 = one; c = zero_float };
      previous = 0;
      next = 0;
      alive = false;
      start = record { east = zero_float; north = zero_float };
      since = zero_float;
    }

-- what reading out of the list gives in the logic
abbrev pub blank : Edge
blank =
    record {
      line = record { u0 = nan; u1 = nan; n0 = nan; n1 = nan; c = nan };
      previous = 0;
      next = 0;
      alive = false;
      start = record { east = nan; north = nan };
      since = nan;
    }

-- `Front::edge`
unfoldable pub edge : List Edge → ℕ → Edge
edge f k = cond (ltb k 128) (get_or f k blank) unused

-- the line of an edge: whoever computes with it reads it here
abbrev pub edge_line : Edge → Line
edge_line e = e.line

-- an edge on the line of another: the only place where what is stored of a line is handed on
unfoldable pub on_line_of : Edge → ℕ → ℕ → Bool → PlanarPoint → Float → Edge
on_line_of e previous next alive start since =
    record { line = e.line; previous = previous; next = next; alive = alive; start = start; since = since }

-- `Front::edge_mut`, one field or two at a time: the edge with another next, previous, start vertex, or dead
unfoldable pub with_next : Edge → ℕ → Edge
with_next e k = on_line_of e e.previous k e.alive e.start e.since

unfoldable pub with_previous : Edge → ℕ → Edge
with_previous e k = on_line_of e k e.next e.alive e.start e.since

unfoldable pub with_start : Edge → PlanarPoint → Float → Edge
with_start e p t = on_line_of e e.previous e.next e.alive p t

unfoldable pub dead : Edge → Edge
dead e = on_line_of e e.previous e.next false e.start e.since

-- and the front with that edge in its slot
unfoldable pub set_next : List Edge → ℕ → ℕ → List Edge
set_next f k n = set f k (with_next (edge f k) n)

unfoldable pub set_previous : List Edge → ℕ → ℕ → List Edge
set_previous f k n = set f k (with_previous (edge f k) n)

unfoldable pub set_start : List Edge → ℕ → PlanarPoint → Float → List Edge
set_start f k p t = set f k (with_start (edge f k) p t)

unfoldable pub kill : List Edge → ℕ → List Edge
kill f k = set f k (dead (edge f k))

-- `Front::remove`: unlinks an edge from its ring
unfoldable pub unlinked : List Edge → ℕ → ℕ → ℕ → List Edge
unlinked f slot before after = kill (set_previous (set_next f before after) after before) slot

unfoldable pub remove : List Edge → ℕ → List Edge
remove f slot = unlinked f slot (edge f slot).previous (edge f slot).next

-- ---- `Front::ring_len`: the number of edges in the ring through a slot, at most 128

unfoldable pub round_on : ℕ → ℕ → Round → Round
round_on slot next r =
    cond (eqb next slot) (record { at = r.at; count = r.count + 1; closed = true })
    (record { at = next; count = r.count + 1; closed = false })

unfoldable pub round_step : List Edge → ℕ → ℕ → Round → Round
round_step f slot k r = cond r.closed r (round_on slot (edge f r.at).next r)

unfoldable pub ring_len : List Edge → ℕ → ℕ
ring_len f slot = (rounds (round_step f slot) 128 (record { at = slot; count = 0; closed = false })).count

-- ---- `Front::vertex`: the start vertex of an edge at offset t, and its velocity

unfoldable pub moved_by : PlanarPoint → PlanarPoint → Float → PlanarPoint
moved_by p v elapsed = record { east = add p.east (mul elapsed v.east); north = add p.north (mul elapsed v.north) }

unfoldable pub vertex_by : Edge → Float → Option PlanarPoint → Option Moving
vertex_by e t None = None
vertex_by e t (Some v) = Some (record { at = moved_by e.start v (Number.sub t e.since); velocity = v })

unfoldable pub vertex_of : List Edge → Edge → Float → Option Moving
vertex_of f e t = vertex_by e t (velocity (edge_line (edge f e.previous)) (edge_line e))

unfoldable pub vertex : List Edge → ℕ → Float → Option Moving
vertex f slot t = vertex_of f (edge f slot) t

-- ---- `Front::anchor` and `Front::collapse`

-- the front after a step that changed it, and after one that met a vertex without a velocity: the Rust's `Some(())` and `None`
unfoldable pub altered : List Edge → Front
altered f = record { edges = f; stalled = false; changed = true }

unfoldable pub stalled : List Edge → Front
stalled f = record { edges = f; stalled = true; changed = true }

-- `Front::anchor`: the start vertex of an edge is recorded as of offset t
unfoldable pub anchor_at : List Edge → ℕ → Float → Option Moving → Front
anchor_at f slot t None = stalled f
anchor_at f slot t (Some m) = altered (set_start f slot m.at t)

unfoldable pub anchor : List Edge → ℕ → Float → Front
anchor f slot t = anchor_at f slot t (vertex f slot t)

-- an edge is removed, if the anchoring before it had its vertex
unfoldable pub then_remove : ℕ → Front → Front
then_remove slot s = cond s.stalled s (altered (remove s.edges slot))

-- `Front::collapse`: an edge that shrank to nothing at t is removed; its successor starts where it vanished
unfoldable pub collapse : List Edge → ℕ → Float → Front
collapse f slot t = then_remove slot (anchor f (edge f slot).next t)

-- ---- `Front::length`: an edge's length at offset t, and its rate of change

unfoldable pub length_to : Edge → Moving → Option Moving → Option Length
length_to e from None = None
length_to e from (Some to) =
    Some
    (record {
      value = dot (direction (edge_line e)) (sub to.at from.at);
      rate = dot (direction (edge_line e)) (sub to.velocity from.velocity);
    })

unfoldable pub length_from : List Edge → Edge → Float → Option Moving → Option Length
length_from f e t None = None
length_from f e t (Some from) = length_to e from (vertex f e.next t)

unfoldable pub edge_length : List Edge → ℕ → Float → Option Length
edge_length f slot t = length_from f (edge f slot) t (vertex f slot t)

-- opens every definition above, for a proof that computes with all of them
unfoldable pub open_edges : Unit {0}
unfolding edge on_line_of with_next with_previous with_start dead set_next set_previous set_start kill unlinked remove round_on round_step
    ring_len moved_by vertex_by vertex_of vertex altered stalled anchor_at anchor then_remove collapse length_to length_from edge_length
open_edges = tt
