-- offset.rs, `Front::split`: the copy of the edge that is hit, and the links; and whether the split divides a ring or joins two. The start
-- vertex of the edge at v runs into the edge at e, whose copy takes a slot of its own. Assumes nothing.
use Rattle.std.specs.Prelude.{ℕ, Bool, true, false, cond, List, ltb, eqb, set, Float}
use Rattle.front.specs.declared.Edge.{Edge}
use Rattle.plane.specs.declared.PlanarPoint.{PlanarPoint}
use Rattle.front.specs.declared.Reach.{Reach}
use Rattle.front.specs.Edges.{edge, on_line_of, set_previous, set_start, set_next}
use Rattle.base.specs.Loop.{rounds}

-- the first slot that is not alive, one freed or one never taken, and 128 where there is none
unfoldable pub free_step : List Edge → ℕ → ℕ → ℕ
free_step f k s = cond (ltb s 128) s (cond (edge f k).alive 128 k)

unfoldable pub free : List Edge → ℕ
free f = rounds (free_step f) 128 128

-- the copy of the edge that is hit starts at the vertex, after the edge before it
unfoldable pub copy_of : Edge → ℕ → PlanarPoint → Float → Edge
copy_of hit before p t = on_line_of hit before hit.next true p t

-- the vertex follows the edge that it hits
unfoldable pub cut : List Edge → ℕ → ℕ → PlanarPoint → Float → List Edge
cut f v e p t = set_start (set_previous f v e) v p t

-- one ring keeps the edge `hit`, at e, and runs on to the vertex; the other takes the copy, at `copy`, after `before`, the edge before the
-- vertex
unfoldable pub split_linked : List Edge → ℕ → ℕ → ℕ → ℕ → Edge → PlanarPoint → Float → List Edge
split_linked f v e copy before hit p t =
    cut (set_next (set_previous (set_next (set f copy (copy_of hit before p t)) before copy) hit.next copy) e v) v e p t

-- whether two edges are in one ring: a walk from the first passes the second before it comes round. A split divides where they are, and
-- joins otherwise.
unfoldable pub reach_on : ℕ → ℕ → ℕ → Reach
reach_on a b next =
    cond (eqb next a) (record { at = next; found = false; closed = true })
    (cond (eqb next b) (record { at = next; found = true; closed = true }) (record { at = next; found = false; closed = false }))

unfoldable pub reach_step : List Edge → ℕ → ℕ → ℕ → Reach → Reach
reach_step f a b k r = cond r.closed r (reach_on a b (edge f r.at).next)

unfoldable pub one_ring : List Edge → ℕ → ℕ → Bool
one_ring f a b = (rounds (reach_step f a b) 128 (record { at = a; found = false; closed = false })).found

-- opens every definition above, for a proof that computes with all of them
unfoldable pub open_splitting : Unit {0}
unfolding free_step free copy_of cut split_linked reach_on reach_step one_ring
open_splitting = tt
