-- polygon.rs, segments: meeting and folding back by exact turns (R-9), and the nearest point. Each float step stands in the Rust's
-- order. Assumes nothing.
use Rattle.std.specs.Prelude.{Bool, cond, ◌&&◌, ◌||◌, Float}
use Rattle.std.specs.Float.Ieee.{lt, le}
use Rattle.plane.specs.declared.PlanarPoint.{PlanarPoint}
use Rattle.math.specs.Number.{add, mul, fmin, fmax, zero_float, div, clamp}
use Rattle.plane.specs.Plane.{sub, dot}
use Rattle.turn.specs.declared.Turn.{Turn}
use Rattle.turn.specs.Turns.{turn, is_straight, apart, open_turns}

-- polygon.rs, `within_box`: whether p, on the segment's line, lies within its bounding box
unfoldable pub within_box : PlanarPoint → PlanarPoint → PlanarPoint → Bool
within_box a b p =
    le (fmin a.east b.east) p.east && (le p.east (fmax a.east b.east) &&
    (le (fmin a.north b.north) p.north && le p.north (fmax a.north b.north)))

-- p, whose turn from the segment ab is d, lies on it
unfoldable pub touches : Turn → PlanarPoint → PlanarPoint → PlanarPoint → Bool
touches d a b p = is_straight d && within_box a b p

-- polygon.rs, `segments_meet`: whether two closed segments have a point in common, by the four turns
unfoldable pub meet_by : Turn → Turn → Turn → Turn → PlanarPoint → PlanarPoint → PlanarPoint → PlanarPoint → Bool
meet_by d1 d2 d3 d4 p1 p2 q1 q2 =
    (apart d1 d2 && apart d3 d4) || (touches d1 q1 q2 p1 || (touches d2 q1 q2 p2 || (touches d3 p1 p2 q1 || touches d4 p1 p2 q2)))

unfoldable pub segments_meet : PlanarPoint → PlanarPoint → PlanarPoint → PlanarPoint → Bool
segments_meet p1 p2 q1 q2 = meet_by (turn q1 q2 p1) (turn q1 q2 p2) (turn p1 p2 q1) (turn p1 p2 q2) p1 p2 q1 q2

-- polygon.rs, `folds_back`: whether two edges that share an end overlap: their other ends, seen from it, lie on one ray. The dot
-- product is rounded.
unfoldable pub folds_back : PlanarPoint → PlanarPoint → PlanarPoint → Bool
folds_back shared a b = is_straight (turn shared a b) && lt zero_float (dot (sub a shared) (sub b shared))

-- ---- the nearest point of a segment

-- the point of the segment from a, along ab, at the fraction t
unfoldable pub along : PlanarPoint → PlanarPoint → Float → PlanarPoint
along a ab t = record { east = add a.east (mul t ab.east); north = add a.north (mul t ab.north) }

unfoldable pub foot : PlanarPoint → PlanarPoint → PlanarPoint → Float → PlanarPoint
foot p a ab squared = cond (le squared zero_float) a (along a ab (clamp (div (dot (sub p a) ab) squared)))

-- polygon.rs, `closest_on_segment`: the point of the segment ab nearest to p
unfoldable pub closest_on_segment : PlanarPoint → PlanarPoint → PlanarPoint → PlanarPoint
closest_on_segment p a b = foot p a (sub b a) (dot (sub b a) (sub b a))

-- opens every definition above, and those of the turn, for a proof that computes with all of them
unfoldable pub open_segments : Unit {0}
unfolding open_turns within_box touches meet_by segments_meet folds_back along foot closest_on_segment
open_segments = tt
