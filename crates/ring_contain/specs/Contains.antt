-- polygon.rs, `ring_contains`: where a point lies. On the boundary by the exact turn (R-9); the ray is rounded, as in the Rust.
-- Assumes nothing.
use Rattle.std.specs.Prelude.{ℕ, Bool, cond, ◌&&◌, ◌||◌, List, Float}
use Rattle.std.specs.Float.Ieee.{lt, unlike}
use Rattle.plane.specs.declared.Containment.{Containment}
use Rattle.plane.specs.declared.Containment.TheVariants.{Inside, OnBoundary, Outside}
use Rattle.plane.specs.declared.PlanarPoint.{PlanarPoint}
use Rattle.math.specs.Number
use Rattle.math.specs.Number.{add, mul, div}
use Rattle.turn.specs.Turns.{turn}
use Rattle.segment.specs.Segments.{touches}
use Rattle.ring.specs.Ring.{vertex_at, edge_end}
use Rattle.base.specs.Loop.{rounds}

unfoldable pub unless_on : Containment → Containment → Containment
unless_on Inside x = x
unless_on OnBoundary x = OnBoundary
unless_on Outside x = x

unfoldable pub flipped : Containment → Containment
flipped Inside = Outside
flipped OnBoundary = OnBoundary
flipped Outside = Inside

-- the ray from p to the east passes the edge ab, which is half-open in north
unfoldable pub passes : PlanarPoint → PlanarPoint → PlanarPoint → Bool
passes a b p =
    unlike (lt p.north a.north) (lt p.north b.north) &&
    lt p.east
    (add a.east
    (mul (div (Number.sub p.north a.north) (Number.sub b.north a.north)) (Number.sub b.east a.east)))

unfoldable pub contains_edge : PlanarPoint → PlanarPoint → PlanarPoint → Containment → Containment
contains_edge p a b s = cond (touches (turn a b p) a b p) OnBoundary (cond (passes a b p) (flipped s) s)

unfoldable pub contains_step : List Float → ℕ → PlanarPoint → ℕ → Containment → Containment
contains_step ps n p k s = unless_on s (contains_edge p (vertex_at ps k) (edge_end ps n k) s)

unfoldable pub ring_contains : List Float → ℕ → PlanarPoint → Containment
ring_contains ps n p = rounds (contains_step ps n p) n Outside

-- ---- the walk of the code, which leaves out the edges that lie north or south of p

-- p is south of both ends of an edge, or north of both, by their norths
unfoldable pub beside : Float → Float → Float → Bool
beside a b p = (lt p a && lt p b) || (lt a p && lt b p)

-- opens every definition above, for a proof that computes with all of them
unfoldable pub open_contains : Unit {0}
unfolding unless_on flipped passes contains_edge contains_step ring_contains beside
open_contains = tt
