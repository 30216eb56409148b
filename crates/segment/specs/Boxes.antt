-- Two segments do not meet that lie in boxes apart. Assumes nothing.
use Rattle.std.specs.Prelude.{◌≡◌, Bool, true, false, cond, ◌||◌, Float}
use Rattle.std.specs.Float.Ieee.{lt}
use Rattle.plane.specs.declared.PlanarPoint.{PlanarPoint}
use Rattle.turn.specs.Turns.{DoublePoint}
use Rattle.segment.specs.Segments.{segments_meet}

-- the greater and the less of two numbers; the second where one is NaN
unfoldable pub greater : Float → Float → Float
greater x y = cond (lt y x) x y

unfoldable pub lesser : Float → Float → Float
lesser x y = cond (lt x y) x y

-- the corners of a segment's box
unfoldable pub low : PlanarPoint → PlanarPoint → PlanarPoint
low a b = record { east = lesser a.east b.east; north = lesser a.north b.north }

unfoldable pub high : PlanarPoint → PlanarPoint → PlanarPoint
high a b = record { east = greater a.east b.east; north = greater a.north b.north }

-- the segment from p to q lies west, east, south or north of the box from l to h
unfoldable pub beside : PlanarPoint → PlanarPoint → PlanarPoint → PlanarPoint → Bool
beside l h p q =
    lt (greater p.east q.east) l.east || (lt h.east (lesser p.east q.east) ||
    (lt (greater p.north q.north) l.north || lt h.north (lesser p.north q.north)))

-- the box from l2 to h2 lies west, east, south or north of the one from l to h: what `beside` asks of a segment's own box
unfoldable pub boxes_apart : PlanarPoint → PlanarPoint → PlanarPoint → PlanarPoint → Bool
boxes_apart l h l2 h2 =
    lt h2.east l.east || (lt h.east l2.east || (lt h2.north l.north || lt h.north l2.north))

-- p does not lie outside of the box from l to h; nor does a point with a NaN, and a NaN corner bounds nothing
pub record Within (l h p : PlanarPoint) : Type 0 where
  pub west : lt p.east l.east ≡ false
  pub east : lt h.east p.east ≡ false
  pub south : lt p.north l.north ≡ false
  pub north : lt h.north p.north ≡ false

-- THE STATEMENT: a segment in a box does not meet one in a box apart from it, for all doubles, infinite and NaN too
abbrev pub BoxesNoMeet : Type 0
BoxesNoMeet =
    (l h l2 h2 p1 p2 q1 q2 : PlanarPoint) → DoublePoint p1 → DoublePoint p2 → DoublePoint q1 → DoublePoint q2 →
    Within l h p1 → Within l h p2 → Within l2 h2 q1 → Within l2 h2 q2 → boxes_apart l h l2 h2 ≡ true →
    segments_meet p1 p2 q1 q2 ≡ false

-- THE STATEMENT: so segments whose own boxes lie apart do not meet
abbrev pub ApartNoMeet : Type 0
ApartNoMeet =
    (p1 p2 q1 q2 : PlanarPoint) → DoublePoint p1 → DoublePoint p2 → DoublePoint q1 → DoublePoint q2 →
    beside (low p1 p2) (high p1 p2) q1 q2 ≡ true → segments_meet p1 p2 q1 q2 ≡ false

-- the same of a test r, which says that the segment from p to q lies beside the box from l to h: then no segment in the box meets it
abbrev pub PassedOver : Bool → PlanarPoint → PlanarPoint → PlanarPoint → PlanarPoint → Type 0
PassedOver r l h p q =
    r ≡ true → (a1 a2 : PlanarPoint) → DoublePoint a1 → DoublePoint a2 → Within l h a1 → Within l h a2 →
    segments_meet a1 a2 p q ≡ false

-- opens every definition above, for a proof that computes with all of them
unfoldable pub open_boxes : Unit {0}
unfolding greater lesser low high beside boxes_apart
open_boxes = tt
