-- R-9: "Two segments with finite ends are then reported as meeting if and only if they share a point." The statement is `MeetIffShared`.
-- Assumes nothing.
use Rattle.std.specs.Prelude.{◌≡◌, Bool, true, false, ◌&&◌, ◌||◌, ℕ, ◌+◌, ◌*◌, ◌<◌}
use Rattle.plane.specs.declared.PlanarPoint.{PlanarPoint}
use Rattle.turn.specs.declared.Turn.{Turn}
use Rattle.turn.specs.Turns.{Place, place_at, turn, is_left, is_right, DoublePoint, Finite}
use Rattle.segment.specs.Segments.{touches, segments_meet}

-- ---- a shared point

-- A point that lies on both closed segments. A point of the segment from p1 to p2 is a mean of its ends: with the weights i' and i it is
-- (i' p1 + i p2) / (i' + i). It is p1 where i is 0 and p2 where i' is 0. A point of the one from q1 to q2 is (k' q1 + k q2) / (k' + k).
-- Both pairs of weights have the same sum, which is not 0, so the two points are one where the weighted ends add up to the same.
-- Whole weights suffice: the four lines below are linear in the weights, with whole coefficients. Where real weights that are not
-- negative solve such lines, fractions do, and fractions times their common denominator are whole.
pub record Share (p1 p2 q1 q2 : Place) : Type 0 where
  pub i' : ℕ
  pub i : ℕ
  pub k' : ℕ
  pub k : ℕ
  pub whole : i' + i ≡ k' + k
  pub some : 0 < i' + i
  pub east : i' * p1.e + i * p2.e ≡ k' * q1.e + k * q2.e
  pub north : i' * p1.n + i * p2.n ≡ k' * q1.n + k * q2.n

-- the segments from p1 to p2 and from q1 to q2 share a point
abbrev pub Shared : PlanarPoint → PlanarPoint → PlanarPoint → PlanarPoint → Type 0
Shared p1 p2 q1 q2 = Share (place_at p1) (place_at p2) (place_at q1) (place_at q2)

-- THE STATEMENT: for all finite doubles, a segment that is one point, ends that coincide and segments of one line among them
pub record MeetIffShared : Type 0 where
  pub meeting_share :
      (p1 p2 q1 q2 : PlanarPoint) → Finite p1 → Finite p2 → Finite q1 → Finite q2 →
      segments_meet p1 p2 q1 q2 ≡ true → Shared p1 p2 q1 q2
  pub sharing_meet :
      (p1 p2 q1 q2 : PlanarPoint) → Finite p1 → Finite p2 → Finite q1 → Finite q2 →
      Shared p1 p2 q1 q2 → segments_meet p1 p2 q1 q2 ≡ true

-- THE STATEMENT: it is the same for the two exchanged and for each one turned round, for all numbers
pub record MeetSymmetric : Type 0 where
  pub exchanged : (p1 p2 q1 q2 : PlanarPoint) → segments_meet q1 q2 p1 p2 ≡ segments_meet p1 p2 q1 q2
  pub first_turned : (p1 p2 q1 q2 : PlanarPoint) → segments_meet p2 p1 q1 q2 ≡ segments_meet p1 p2 q1 q2
  pub second_turned : (p1 p2 q1 q2 : PlanarPoint) → segments_meet p1 p2 q2 q1 ≡ segments_meet p1 p2 q1 q2

-- p lies on the segment from a to b: that segment and the one from p to p share a point
abbrev pub On : PlanarPoint → PlanarPoint → PlanarPoint → Type 0
On a b p = Shared a b p p

-- THE STATEMENT, of the boundary test's question about one edge
pub record TouchIffOn : Type 0 where
  pub touching_on :
      (a b p : PlanarPoint) → Finite a → Finite b → Finite p → touches (turn a b p) a b p ≡ true → On a b p
  pub on_touching :
      (a b p : PlanarPoint) → Finite a → Finite b → Finite p → On a b p → touches (turn a b p) a b p ≡ true

-- ---- what the code leaves early by

-- both turns are to the left, or both to the right
unfoldable pub one_side : Turn → Turn → Bool
one_side d e = (is_left d && is_left e) || (is_right d && is_right e)

-- THE STATEMENT: two segments do not meet where one lies on one side of the other's line, for all doubles, infinite and NaN too
pub record OneSideNoMeet : Type 0 where
  pub beside_second :
      (p1 p2 q1 q2 : PlanarPoint) → DoublePoint p1 → DoublePoint p2 → DoublePoint q1 → DoublePoint q2 →
      one_side (turn q1 q2 p1) (turn q1 q2 p2) ≡ true → segments_meet p1 p2 q1 q2 ≡ false
  pub beside_first :
      (p1 p2 q1 q2 : PlanarPoint) → DoublePoint p1 → DoublePoint p2 → DoublePoint q1 → DoublePoint q2 →
      one_side (turn p1 p2 q1) (turn p1 p2 q2) ≡ true → segments_meet p1 p2 q1 q2 ≡ false
