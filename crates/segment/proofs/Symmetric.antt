-- Whether two segments meet is the same for the two exchanged, and for each one turned round. Assumes nothing.
use mathlib.Core.Path.{◌≡◌, refl, sym, ◌∙◌}
use mathlib.Core.Bool.{Bool, true, false, cond, ◌&&◌, ◌||◌, false≢true, and_comm, or_comm, or_assoc}
use lib.Ieee.{Float, lt, le, eq}
use Rattle.math.specs.Number.{fmin, fmax}
use Rattle.math.proofs.Order.{one_way, itself, nan_under, under_nan, low_too, high_too}
use Rattle.plane.specs.declared.PlanarPoint.{PlanarPoint}
use Rattle.turn.specs.declared.Turn.{Turn}
use Rattle.turn.specs.declared.Turn.TheVariants.{Left, Right, Straight, Unknown}
use Rattle.turn.specs.Turns.{turn, is_left, is_right, is_straight, apart}
use Rattle.turn.specs.Laws.{opposite}
use Rattle.turn.proofs.Laws.{turn_laws}
use Rattle.segment.specs.Segments.{within_box, touches, meet_by, segments_meet}
use Rattle.segment.specs.Meeting.{MeetSymmetric}

pairs_turned : (x y a b c d : Bool) → ((x && y) || (a || (b || (c || d)))) ≡ ((y && x) || (c || (d || (a || b))))
pairs_turned x y a b c d = rw (and_comm x y, ← or_assoc a b (c || d), or_comm (a || b) (c || d), or_assoc c d (a || b)) refl

exchanged : (p1 p2 q1 q2 : PlanarPoint) → segments_meet q1 q2 p1 p2 ≡ segments_meet p1 p2 q1 q2
unfolding segments_meet meet_by
exchanged p1 p2 q1 q2 =
    pairs_turned (apart (turn p1 p2 q1) (turn p1 p2 q2)) (apart (turn q1 q2 p1) (turn q1 q2 p2))
    (touches (turn p1 p2 q1) p1 p2 q1) (touches (turn p1 p2 q2) p1 p2 q2) (touches (turn q1 q2 p1) q1 q2 p1) (touches (turn q1 q2 p2) q1 q2 p2)

pub alike : (x y : Bool) → (x ≡ true → y ≡ true) → (y ≡ true → x ≡ true) → x ≡ y
alike true y f g = sym (f refl)
alike false true f g = g refl
alike false false f g = refl

-- ---- the box of a segment turned round
module _ (a b p : Float) where
  low_turned : le (fmin a b) p ≡ le (fmin b a) p
  unfolding fmin
  low_turned = go (lt a b) (lt b a) (eq a a) (eq b b) refl refl refl refl
    where
      go : (t u v w : Bool) → lt a b ≡ t → lt b a ≡ u → eq a a ≡ v → eq b b ≡ w → le (cond t a (cond w b a)) p ≡ le (cond u b (cond v a b)) p
      go true true v w e f g h = absurd (false≢true (sym (one_way a b e) ∙ f))
      go true false true w e f g h = refl
      go true false false w e f g h = absurd (false≢true (sym (nan_under a b g) ∙ e))
      go false true v true e f g h = refl
      go false true v false e f g h = absurd (false≢true (sym (nan_under b a h) ∙ f))
      go false false true true e f g h = alike (le b p) (le a p) (low_too b a p g f) (low_too a b p h e)
      go false false true false e f g h = refl
      go false false false true e f g h = refl
      go false false false false e f g h = rw (itself a g, itself b h) refl

  high_turned : le p (fmax a b) ≡ le p (fmax b a)
  unfolding fmax
  high_turned = go (lt b a) (lt a b) (eq a a) (eq b b) refl refl refl refl
    where
      go : (t u v w : Bool) → lt b a ≡ t → lt a b ≡ u → eq a a ≡ v → eq b b ≡ w → le p (cond t a (cond w b a)) ≡ le p (cond u b (cond v a b))
      go true true v w e f g h = absurd (false≢true (sym (one_way b a e) ∙ f))
      go true false true w e f g h = refl
      go true false false w e f g h = absurd (false≢true (sym (under_nan b a g) ∙ e))
      go false true v true e f g h = refl
      go false true v false e f g h = absurd (false≢true (sym (under_nan a b h) ∙ f))
      go false false true true e f g h = alike (le p b) (le p a) (high_too b a p g f) (high_too a b p h e)
      go false false true false e f g h = refl
      go false false false true e f g h = refl
      go false false false false e f g h = rw (itself a g, itself b h) refl

four_and : (a b c d x y z w : Bool) → a ≡ x → b ≡ y → c ≡ z → d ≡ w → (a && (b && (c && d))) ≡ (x && (y && (z && w)))
four_and a b c d x y z w e f g h = rw (e, f, g, h) refl

box_turned : (a b p : PlanarPoint) → within_box a b p ≡ within_box b a p
unfolding within_box
box_turned a b p =
    four_and _ _ _ _ _ _ _ _ (low_turned a.east b.east p.east) (high_turned a.east b.east p.east)
    (low_turned a.north b.north p.north) (high_turned a.north b.north p.north)

-- ---- a segment turned round
apart_turned : (d e : Turn) → apart e d ≡ apart d e
unfolding apart
apart_turned d e = rw (and_comm (is_left e) (is_right d), and_comm (is_right e) (is_left d)) (or_comm (is_right d && is_left e) (is_left d && is_right e))

left_opposite : (d : Turn) → is_left (opposite d) ≡ is_right d
unfolding is_left is_right opposite
left_opposite Left = refl
left_opposite Right = refl
left_opposite Straight = refl
left_opposite Unknown = refl

right_opposite : (d : Turn) → is_right (opposite d) ≡ is_left d
unfolding is_left is_right opposite
right_opposite Left = refl
right_opposite Right = refl
right_opposite Straight = refl
right_opposite Unknown = refl

straight_opposite : (d : Turn) → is_straight (opposite d) ≡ is_straight d
unfolding is_straight opposite
straight_opposite Left = refl
straight_opposite Right = refl
straight_opposite Straight = refl
straight_opposite Unknown = refl

both_opposite : (d e : Turn) → apart (opposite d) (opposite e) ≡ apart d e
unfolding apart
both_opposite d e =
    rw (left_opposite d, right_opposite e, right_opposite d, left_opposite e) (or_comm (is_right d && is_left e) (is_left d && is_right e))

touch_turned : (a b p : PlanarPoint) → touches (turn b a p) b a p ≡ touches (turn a b p) a b p
unfolding touches
touch_turned a b p = rw (turn_laws.back a b p, straight_opposite (turn a b p), box_turned b a p) refl

halves : (x y z w a b c d e f : Bool) → x ≡ z → y ≡ w → c ≡ e → d ≡ f → ((x && y) || (a || (b || (c || d)))) ≡ ((z && w) || (b || (a || (e || f))))
halves x y z w a b c d e f g h i j =
    rw (g, h, i, j, ← or_assoc a b (e || f), ← or_assoc b a (e || f), or_comm a b) refl

first_turned : (p1 p2 q1 q2 : PlanarPoint) → segments_meet p2 p1 q1 q2 ≡ segments_meet p1 p2 q1 q2
unfolding segments_meet meet_by
first_turned p1 p2 q1 q2 =
    halves _ _ _ _ (touches (turn q1 q2 p2) q1 q2 p2) (touches (turn q1 q2 p1) q1 q2 p1) _ _ _ _ (apart_turned (turn q1 q2 p1) (turn q1 q2 p2)) back (touch_turned p1 p2 q1) (touch_turned p1 p2 q2)
  where
    back : apart (turn p2 p1 q1) (turn p2 p1 q2) ≡ apart (turn p1 p2 q1) (turn p1 p2 q2)
    back = rw (turn_laws.back p1 p2 q1, turn_laws.back p1 p2 q2) (both_opposite (turn p1 p2 q1) (turn p1 p2 q2))

second_turned : (p1 p2 q1 q2 : PlanarPoint) → segments_meet p1 p2 q2 q1 ≡ segments_meet p1 p2 q1 q2
second_turned p1 p2 q1 q2 = exchanged q2 q1 p1 p2 ∙ first_turned q1 q2 p1 p2 ∙ exchanged p1 p2 q1 q2

pub meet_symmetric : MeetSymmetric
meet_symmetric = record { exchanged = exchanged; first_turned = first_turned; second_turned = second_turned }
