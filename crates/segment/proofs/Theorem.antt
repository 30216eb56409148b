-- Two closed segments with finite ends are reported as meeting if and only if they share a point. Assumes nothing.
use mathlib.Core.Path.{◌≡◌, refl, sym, ap, ◌∙◌, subst}
use mathlib.Core.Logic.{inl, inr}
use mathlib.Core.Bool.{Bool, true, false, cond, ◌&&◌, ◌||◌, false≢true, and-eq-true_iff}
use mathlib.Mathlib.Data.Bool.Basic.{or_inl, or_inr, and_intro}
use Prim.Native.Nat.{ℕ, ◌≤◌, ◌<◌}
use native.Mathlib.Nat.{lt_irrefl}
use native.Mathlib.Omega.{arith}
use lib.Dec.{T, ltb}
use lib.Ieee.{Float, nan, eq, le}
use borrow.Author.Tests.{ltb-true, ltb-false, leb-true, le-leb}
use Rattle.math.specs.Number.{fmin, fmax, finite}
use Rattle.math.proofs.Order.{itself}
use Rattle.plane.specs.declared.PlanarPoint.{PlanarPoint}
use Rattle.turn.specs.declared.Turn.{Turn}
use Rattle.turn.specs.declared.Turn.TheVariants.{Unknown}
use Rattle.turn.specs.Turns.{place, turn, by_sums, finite_point, Finite, is_left, is_right, is_straight, apart, place_at, left_places, right_places}
use Rattle.turn.specs.Turns as turns
use Rattle.turn.proofs.Sums.{Order, less, equal, more, order, tells_left, tells_right, tells_straight}
use Rattle.turn.proofs.Places.{or_either}
use Rattle.segment.specs.Segments.{within_box, touches, meet_by, segments_meet}
use Rattle.segment.specs.Meeting.{Shared, MeetIffShared}
use Rattle.segment.proofs.Shared.{In, up, down, Touch, Split, left_right, right_left, Meets, across, at_p1, at_p2, at_q1, at_q2, shared_meets, meets_shared}
use Rattle.segment.proofs.Floats.{Number, east_number, north_number, lt_place, le_places}

-- ---- one axis
not_nan : (x : Float) → x ≡ nan → finite x ≡ true → ⊥
unfolding finite
not_nan x e h = subst T (sym h ∙ ap finite e) tt

eq_self : (x : Float) → finite x ≡ true → eq x x ≡ true
eq_self x h = go (eq x x) refl
  where
    go : (t : Bool) → eq x x ≡ t → eq x x ≡ true
    go true e = e
    go false e = absurd (not_nan x (itself x e) h)

module _ (a b p : Float) (fa : Number a) (fb : Number b) (fp : Number p) where
  least : fmin a b ≡ cond (ltb (place a) (place b)) a b
  unfolding fmin
  least = ap (λ (t : Bool). cond t a (cond (eq b b) b a)) (lt_place a b fa fb) ∙ ap (λ (t : Bool). cond (ltb (place a) (place b)) a (cond t b a)) (eq_self b fb.is_finite)

  most : fmax a b ≡ cond (ltb (place b) (place a)) a b
  unfolding fmax
  most = ap (λ (t : Bool). cond t a (cond (eq b b) b a)) (lt_place b a fb fa) ∙ ap (λ (t : Bool). cond (ltb (place b) (place a)) a (cond t b a)) (eq_self b fb.is_finite)

  from_a : le a p ≡ true → place a ≤ place p
  from_a h = leb-true (place a) (place p) (sym (le_places a p fa fp) ∙ h)

  from_b : le b p ≡ true → place b ≤ place p
  from_b h = leb-true (place b) (place p) (sym (le_places b p fb fp) ∙ h)

  to_a : le p a ≡ true → place p ≤ place a
  to_a h = leb-true (place p) (place a) (sym (le_places p a fp fa) ∙ h)

  to_b : le p b ≡ true → place p ≤ place b
  to_b h = leb-true (place p) (place b) (sym (le_places p b fp fb) ∙ h)

  pub axis_in : le (fmin a b) p ≡ true → le p (fmax a b) ≡ true → In (place a) (place b) (place p)
  axis_in h k = go (ltb (place a) (place b)) (ltb (place b) (place a)) refl refl (sym (ap (λ (x : Float). le x p) least) ∙ h) (sym (ap (λ (x : Float). le p x) most) ∙ k)
    where
      go : (t u : Bool) → ltb (place a) (place b) ≡ t → ltb (place b) (place a) ≡ u → le (cond t a b) p ≡ true → le p (cond u a b) ≡ true → In (place a) (place b) (place p)
      go true true e f h k = let x = ltb-true (place a) (place b) e in let y = ltb-true (place b) (place a) f in absurd (lt_irrefl 0 (omega arith))
      go true false e f h k = up (from_a h) (to_b k)
      go false true e f h k = down (from_b h) (to_a k)
      go false false e f h k = let x = ltb-false (place a) (place b) e in let y = ltb-false (place b) (place a) f in let z = from_b h in up (omega arith) (to_b k)

  a_below : place a ≤ place p → le a p ≡ true
  a_below h = le_places a p fa fp ∙ le-leb (place a) (place p) h

  b_below : place b ≤ place p → le b p ≡ true
  b_below h = le_places b p fb fp ∙ le-leb (place b) (place p) h

  a_above : place p ≤ place a → le p a ≡ true
  a_above h = le_places p a fp fa ∙ le-leb (place p) (place a) h

  b_above : place p ≤ place b → le p b ≡ true
  b_above h = le_places p b fp fb ∙ le-leb (place p) (place b) h

  low_of : In (place a) (place b) (place p) → (t : Bool) → ltb (place a) (place b) ≡ t → le (cond t a b) p ≡ true
  low_of (up h k) true e = a_below h
  low_of (up h k) false e = let x = ltb-false (place a) (place b) e in b_below (omega arith)
  low_of (down h k) true e = let x = ltb-true (place a) (place b) e in absurd (lt_irrefl 0 (omega arith))
  low_of (down h k) false e = b_below h

  high_of : In (place a) (place b) (place p) → (t : Bool) → ltb (place b) (place a) ≡ t → le p (cond t a b) ≡ true
  high_of (up h k) true e = let x = ltb-true (place b) (place a) e in absurd (lt_irrefl 0 (omega arith))
  high_of (up h k) false e = b_above k
  high_of (down h k) true e = a_above k
  high_of (down h k) false e = let x = ltb-false (place b) (place a) e in b_above (omega arith)

  pub axis_low : In (place a) (place b) (place p) → le (fmin a b) p ≡ true
  axis_low i = ap (λ (x : Float). le x p) least ∙ low_of i (ltb (place a) (place b)) refl

  pub axis_high : In (place a) (place b) (place p) → le p (fmax a b) ≡ true
  axis_high i = ap (λ (x : Float). le p x) most ∙ high_of i (ltb (place b) (place a)) refl

-- ---- the box
module _ (a b p : PlanarPoint) (fa : Finite a) (fb : Finite b) (fp : Finite p) where
  box_in : within_box a b p ≡ true → In (place a.east) (place b.east) (place p.east) × In (place a.north) (place b.north) (place p.north)
  unfolding within_box
  box_in h =
      let x = (and-eq-true_iff (le (fmin a.east b.east) p.east) (le p.east (fmax a.east b.east) && (le (fmin a.north b.north) p.north && le p.north (fmax a.north b.north)))).0 h in
      let y = (and-eq-true_iff (le p.east (fmax a.east b.east)) (le (fmin a.north b.north) p.north && le p.north (fmax a.north b.north))).0 x.1 in
      let z = (and-eq-true_iff (le (fmin a.north b.north) p.north) (le p.north (fmax a.north b.north))).0 y.1 in (
        axis_in a.east b.east p.east (east_number a fa) (east_number b fb) (east_number p fp) x.0 y.0,
        axis_in a.north b.north p.north (north_number a fa) (north_number b fb) (north_number p fp) z.0 z.1,
      )

  box_out : In (place a.east) (place b.east) (place p.east) → In (place a.north) (place b.north) (place p.north) → within_box a b p ≡ true
  unfolding within_box
  box_out i j =
      and_intro (axis_low a.east b.east p.east (east_number a fa) (east_number b fb) (east_number p fp) i)
      (and_intro (axis_high a.east b.east p.east (east_number a fa) (east_number b fb) (east_number p fp) i)
      (and_intro (axis_low a.north b.north p.north (north_number a fa) (north_number b fb) (north_number p fp) j)
      (axis_high a.north b.north p.north (north_number a fa) (north_number b fb) (north_number p fp) j)))

-- ---- turns
pub left_is : (l r : ℕ) → is_left (by_sums l r) ≡ true → r < l
unfolding is_left
left_is l r h = go (order l r)
  where
    go : Order l r → r < l
    go (less p) = absurd (false≢true (sym (ap is_left (tells_right l r p)) ∙ h))
    go (equal p) = absurd (false≢true (sym (ap is_left (tells_straight l r p)) ∙ h))
    go (more p) = p

pub right_is : (l r : ℕ) → is_right (by_sums l r) ≡ true → l < r
unfolding is_right
right_is l r h = go (order l r)
  where
    go : Order l r → l < r
    go (less p) = p
    go (equal p) = absurd (false≢true (sym (ap is_right (tells_straight l r p)) ∙ h))
    go (more p) = absurd (false≢true (sym (ap is_right (tells_left l r p)) ∙ h))

straight_is : (l r : ℕ) → is_straight (by_sums l r) ≡ true → l ≡ r
unfolding is_straight
straight_is l r h = go (order l r)
  where
    go : Order l r → l ≡ r
    go (less p) = absurd (false≢true (sym (ap is_straight (tells_right l r p)) ∙ h))
    go (equal p) = p
    go (more p) = absurd (false≢true (sym (ap is_straight (tells_left l r p)) ∙ h))

is_left_of : (l r : ℕ) → r < l → is_left (by_sums l r) ≡ true
unfolding is_left
is_left_of l r h = ap is_left (tells_left l r h)

is_right_of : (l r : ℕ) → l < r → is_right (by_sums l r) ≡ true
unfolding is_right
is_right_of l r h = ap is_right (tells_right l r h)

is_straight_of : (l r : ℕ) → l ≡ r → is_straight (by_sums l r) ≡ true
unfolding is_straight
is_straight_of l r h = ap is_straight (tells_straight l r h)

split_in : (l r l' r' : ℕ) → apart (by_sums l r) (by_sums l' r') ≡ true → Split l r l' r'
unfolding apart
split_in l r l' r' h = elim (or_either (is_left (by_sums l r) && is_right (by_sums l' r')) (is_right (by_sums l r) && is_left (by_sums l' r')) h) [
  | inl e ↦ let b = (and-eq-true_iff (is_left (by_sums l r)) (is_right (by_sums l' r'))).0 e in left_right (left_is l r b.0) (right_is l' r' b.1)
  | inr e ↦ let b = (and-eq-true_iff (is_right (by_sums l r)) (is_left (by_sums l' r'))).0 e in right_left (right_is l r b.0) (left_is l' r' b.1)
]

split_out : (l r l' r' : ℕ) → Split l r l' r' → apart (by_sums l r) (by_sums l' r') ≡ true
unfolding apart
split_out l r l' r' (left_right h k) = or_inl _ _ (and_intro (is_left_of l r h) (is_right_of l' r' k))
split_out l r l' r' (right_left h k) = or_inr (is_left (by_sums l r) && is_right (by_sums l' r')) (is_right (by_sums l r) && is_left (by_sums l' r')) (and_intro (is_right_of l r h) (is_left_of l' r' k))

abbrev pub ls : PlanarPoint → PlanarPoint → PlanarPoint → ℕ
ls a b c = left_places (place_at a) (place_at b) (place_at c)

abbrev pub rs : PlanarPoint → PlanarPoint → PlanarPoint → ℕ
rs a b c = right_places (place_at a) (place_at b) (place_at c)

all_finite : (a b c : PlanarPoint) → Finite a → Finite b → Finite c → (finite_point a && (finite_point b && finite_point c)) ≡ true
all_finite a b c fa fb fc = and_intro fa.both_finite (and_intro fb.both_finite fc.both_finite)

pub turn_is : (a b c : PlanarPoint) → Finite a → Finite b → Finite c → turn a b c ≡ by_sums (ls a b c) (rs a b c)
unfolding turn turns.left_sum turns.right_sum
turn_is a b c fa fb fc = ap (λ (t : Bool). cond t (by_sums (turns.left_sum a b c) (turns.right_sum a b c)) Unknown) (all_finite a b c fa fb fc)

module _ (a b p : PlanarPoint) (fa : Finite a) (fb : Finite b) (fp : Finite p) where
  pub touch_in : touches (by_sums (ls a b p) (rs a b p)) a b p ≡ true → Touch (place_at a) (place_at b) (place_at p)
  unfolding touches
  touch_in h =
      let x = (and-eq-true_iff (is_straight (by_sums (ls a b p) (rs a b p))) (within_box a b p)).0 h in
      let y = box_in a b p fa fb fp x.1 in
      record { line = straight_is (ls a b p) (rs a b p) x.0; east = y.0; north = y.1 }

  pub touch_out : Touch (place_at a) (place_at b) (place_at p) → touches (by_sums (ls a b p) (rs a b p)) a b p ≡ true
  unfolding touches
  touch_out t = and_intro (is_straight_of (ls a b p) (rs a b p) t.line) (box_out a b p fa fb fp t.east t.north)

-- ---- the theorem
module _ (p1 p2 q1 q2 : PlanarPoint) (f1 : Finite p1) (f2 : Finite p2) (g1 : Finite q1) (g2 : Finite q2) where
  abbrev d1 : Turn
  d1 = by_sums (ls q1 q2 p1) (rs q1 q2 p1)

  abbrev d2 : Turn
  d2 = by_sums (ls q1 q2 p2) (rs q1 q2 p2)

  abbrev d3 : Turn
  d3 = by_sums (ls p1 p2 q1) (rs p1 p2 q1)

  abbrev d4 : Turn
  d4 = by_sums (ls p1 p2 q2) (rs p1 p2 q2)

  meet_is : segments_meet p1 p2 q1 q2 ≡ meet_by d1 d2 d3 d4 p1 p2 q1 q2
  unfolding segments_meet
  meet_is =
      ap (λ (t : Turn). meet_by t (turn q1 q2 p2) (turn p1 p2 q1) (turn p1 p2 q2) p1 p2 q1 q2) (turn_is q1 q2 p1 g1 g2 f1)
      ∙ ap (λ (t : Turn). meet_by d1 t (turn p1 p2 q1) (turn p1 p2 q2) p1 p2 q1 q2) (turn_is q1 q2 p2 g1 g2 f2)
      ∙ ap (λ (t : Turn). meet_by d1 d2 t (turn p1 p2 q2) p1 p2 q1 q2) (turn_is p1 p2 q1 f1 f2 g1)
      ∙ ap (λ (t : Turn). meet_by d1 d2 d3 t p1 p2 q1 q2) (turn_is p1 p2 q2 f1 f2 g2)

  pub meets_of : segments_meet p1 p2 q1 q2 ≡ true → Meets (place_at p1) (place_at p2) (place_at q1) (place_at q2)
  unfolding meet_by
  meets_of h = elim (or_either (apart d1 d2 && apart d3 d4) (touches d1 q1 q2 p1 || (touches d2 q1 q2 p2 || (touches d3 p1 p2 q1 || touches d4 p1 p2 q2))) (sym meet_is ∙ h)) [
    | inl e ↦ let b = (and-eq-true_iff (apart d1 d2) (apart d3 d4)).0 e in across (split_in _ _ _ _ b.0) (split_in _ _ _ _ b.1)
    | inr e ↦ elim (or_either (touches d1 q1 q2 p1) (touches d2 q1 q2 p2 || (touches d3 p1 p2 q1 || touches d4 p1 p2 q2)) e) [
      | inl t ↦ at_p1 (touch_in q1 q2 p1 g1 g2 f1 t)
      | inr t ↦ elim (or_either (touches d2 q1 q2 p2) (touches d3 p1 p2 q1 || touches d4 p1 p2 q2) t) [
        | inl u ↦ at_p2 (touch_in q1 q2 p2 g1 g2 f2 u)
        | inr u ↦ elim (or_either (touches d3 p1 p2 q1) (touches d4 p1 p2 q2) u) [
          | inl v ↦ at_q1 (touch_in p1 p2 q1 f1 f2 g1 v)
          | inr v ↦ at_q2 (touch_in p1 p2 q2 f1 f2 g2 v)
        ]
      ]
    ]
  ]

  meets_by : Meets (place_at p1) (place_at p2) (place_at q1) (place_at q2) → meet_by d1 d2 d3 d4 p1 p2 q1 q2 ≡ true
  unfolding meet_by
  meets_by (across s t) = or_inl _ _ (and_intro (split_out _ _ _ _ s) (split_out _ _ _ _ t))
  meets_by (at_p1 t) = or_inr (apart d1 d2 && apart d3 d4) _ (or_inl (touches d1 q1 q2 p1) _ (touch_out q1 q2 p1 g1 g2 f1 t))
  meets_by (at_p2 t) = or_inr (apart d1 d2 && apart d3 d4) _ (or_inr (touches d1 q1 q2 p1) _ (or_inl (touches d2 q1 q2 p2) _ (touch_out q1 q2 p2 g1 g2 f2 t)))
  meets_by (at_q1 t) = or_inr (apart d1 d2 && apart d3 d4) _ (or_inr (touches d1 q1 q2 p1) _ (or_inr (touches d2 q1 q2 p2) _ (or_inl (touches d3 p1 p2 q1) _ (touch_out p1 p2 q1 f1 f2 g1 t))))
  meets_by (at_q2 t) = or_inr (apart d1 d2 && apart d3 d4) _ (or_inr (touches d1 q1 q2 p1) _ (or_inr (touches d2 q1 q2 p2) _ (or_inr (touches d3 p1 p2 q1) _ (touch_out p1 p2 q2 f1 f2 g2 t))))

  pub of_meets : Meets (place_at p1) (place_at p2) (place_at q1) (place_at q2) → segments_meet p1 p2 q1 q2 ≡ true
  of_meets m = meet_is ∙ meets_by m

  pub share_of : segments_meet p1 p2 q1 q2 ≡ true → Shared p1 p2 q1 q2
  share_of h = meets_shared (place_at p1) (place_at p2) (place_at q1) (place_at q2) (meets_of h)

  pub of_share : Shared p1 p2 q1 q2 → segments_meet p1 p2 q1 q2 ≡ true
  of_share s = of_meets (shared_meets (place_at p1) (place_at p2) (place_at q1) (place_at q2) s)

pub meet_iff_shared : MeetIffShared
meet_iff_shared = record { meeting_share = share_of; sharing_meet = of_share }
