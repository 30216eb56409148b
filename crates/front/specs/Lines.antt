-- offset.rs, `Line`: the line of an edge, the velocity and the meeting point of two lines. Assumes nothing.
use Rattle.std.specs.Prelude.{cond, Float, Option, Some, None}
use Rattle.std.specs.Float.Ieee.{lt, le, neg}
use Rattle.plane.specs.declared.PlanarPoint.{PlanarPoint}
use Rattle.front.specs.declared.Line.{Line}
use Rattle.math.specs.Number
use Rattle.plane.specs.Plane.{dot, sub, cross}
use Rattle.math.specs.Number.{div, zero_float, add, one, mul, abs}
use Rattle.hypotenuse.specs.Hypot.{hypot}
use Rattle.front.specs.Thresholds.{opposite, parallel}

-- `Line::u` and `Line::n` as vectors: the direction, and the normal to its left
abbrev pub direction : Line → PlanarPoint
direction l = record { east = l.u0; north = l.u1 }

abbrev pub normal : Line → PlanarPoint
normal l = record { east = l.n0; north = l.n1 }

-- `Line::through`: the line from `start` to `end`, if their distance is above 0. Its normal is the direction turned to the left, exactly.
unfoldable pub line_along : PlanarPoint → Float → Float → Line
line_along start u0 u1 =
    record { u0 = u0; u1 = u1; n0 = neg u1; n1 = u0; c = dot (record { east = neg u1; north = u0 }) start }

unfoldable pub line_by : PlanarPoint → PlanarPoint → Float → Option Line
line_by start delta length =
    cond (le length zero_float) None (Some (line_along start (div delta.east length) (div delta.north length)))

unfoldable pub line_of : PlanarPoint → PlanarPoint → Option Line
line_of start delta = line_by start delta (hypot delta.east delta.north)

unfoldable pub through : PlanarPoint → PlanarPoint → Option Line
through start end = line_of start (sub end start)

-- `velocity`, of the meeting point of two lines: none where they face opposite ways
unfoldable pub velocity_by : Line → Line → Float → Option PlanarPoint
velocity_by a b scale =
    cond (lt scale opposite) None (Some (record { east = div (add a.n0 b.n0) scale; north = div (add a.n1 b.n1) scale }))

unfoldable pub velocity : Line → Line → Option PlanarPoint
velocity a b = velocity_by a b (add one (dot (normal a) (normal b)))

-- `meeting`, the meeting point of two lines at offset t: none where they are parallel
unfoldable pub meeting_by : Line → Line → Float → Float → Float → Option PlanarPoint
meeting_by a b det ra rb =
    cond (lt (abs det) parallel) None
    (Some
    (record {
      east = div (Number.sub (mul ra b.n1) (mul a.n1 rb)) det;
      north = div (Number.sub (mul a.n0 rb) (mul ra b.n0)) det;
    }))

unfoldable pub meeting : Line → Line → Float → Option PlanarPoint
meeting a b t = meeting_by a b (cross (normal a) (normal b)) (add a.c t) (add b.c t)

-- opens every definition above, for a proof that computes with all of them
unfoldable pub open_lines : Unit {0}
unfolding line_along line_by line_of through velocity_by velocity meeting_by meeting
open_lines = tt
