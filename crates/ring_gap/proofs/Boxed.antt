-- A box that is widened by an edge holds every nearest point of the edge, and an edge whose nearest points are in a box beyond a distance has no gap below it. Assumes nothing.
use Prim.Native.Nat.{ℕ, ◌+◌, ◌*◌, ◌≤◌}
use native.Mathlib.Omega.{arith}
use mathlib.Core.Path.{◌≡◌, refl, sym, ap, ◌∙◌, subst}
use mathlib.Core.Bool.{Bool, true, false, cond, ◌||◌, true≢false, false≢true}
use borrow.Author.Tests.{ltb-false, le-ltb}
use lib.Ieee.{Float, nan, inf, fin, binary64, up, down, lt, le, neg, add, mul, is_nan}
use lib.Ieee.Fits.{sub-fits}
use Rattle.math.proofs.Order.{past, short, irreflexive, lt_from, lt_number, lt_nan}
use Rattle.math.proofs.Absolute.{neg_neg}
use Rattle.math.proofs.Laws.{hypot_not_below}
use Rattle.math.proofs.Values.{hypot_swap}
use Rattle.math.specs.Number
use Rattle.math.specs.Number.{zero_float, one, abs, raised, lowered, clamp, open_number}
use Rattle.plane.specs.declared.PlanarPoint.{PlanarPoint}
use Rattle.plane.specs.Plane.{sub, dot}
use Rattle.plane.specs.Points.{length_of}
use Rattle.segment.specs.Segments.{along, foot, closest_on_segment}
use Rattle.segment.specs.Boxes.{lesser, greater, low, high, Within}
use Rattle.segment.proofs.Apart.{taken_in, still_in, still_not_below, still_not_above}
use Rattle.ring_near.specs.Near.{gap_to}
use Rattle.plane.specs.declared.Bounds.{Bounds}
use Rattle.ring_gap.specs.Blocks.{gap_between, widened, beyond, BeyondNotNearer}
use Rattle.ring_gap.proofs.Monotone.{Between, upward, downward, Part, nought, whole, mul_between, add_kept_second, sub_kept, start_number, end_number, lt_neg}

-- ---- a box that is made larger by v holds what lies on the inner side of v

above_number : (x y : Float) → lt x y ≡ true → is_nan y ≡ false
unfolding is_nan
above_number x nan h = absurd (true≢false (sym h ∙ lt_nan x))
above_number x (inf t) h = refl
above_number x (fin t n d) h = refl

low_takes : (z v l : Float) → lt z v ≡ false → (is_nan z ≡ false → is_nan v ≡ false) → lt z (lesser v l) ≡ false
unfolding lesser
low_takes z v l h n = go (lt v l) refl (lt z l) refl
  where
    go : (b : Bool) → lt v l ≡ b → (d : Bool) → lt z l ≡ d → lt z (cond b v l) ≡ false
    go true e d f = h
    go false e true f = absurd (true≢false (sym (lt_from z v l (n (lt_number z l f)) f h) ∙ e))
    go false e false f = f

high_takes : (z v h : Float) → lt v z ≡ false → (is_nan z ≡ false → is_nan v ≡ false) → lt (greater v h) z ≡ false
unfolding greater
high_takes z v h g n = go (lt h v) refl (lt h z) refl
  where
    go : (b : Bool) → lt h v ≡ b → (d : Bool) → lt h z ≡ d → lt (cond b v h) z ≡ false
    go true e d f = g
    go false e true f = absurd (true≢false (sym (lt_from h v z (n (above_number h z f)) f e) ∙ g))
    go false e false f = f

-- ---- one coordinate of the foot: a + t (b - a), where t is a part of 1

nought_is : zero_float ≡ nought
unfolding open_number
nought_is = refl

whole_is : one ≡ whole
unfolding open_number
whole_is = refl

pub clamped : (x : Float) → Part (clamp x)
unfolding clamp raised lowered lt open_number
clamped x = go (lt x nought) refl
  where
    raise : (y : Float) → lt y nought ≡ false → (b : Bool) → lt whole y ≡ b → Part (cond b whole y)
    raise y h true e = record { low = refl; high = refl }
    raise y h false e = record { low = h; high = e }

    go : (b : Bool) → lt x nought ≡ b → Part (cond (lt whole (cond b nought x)) whole (cond b nought x))
    go true e = record { low = refl; high = refl }
    go false e = raise x e (lt whole x) refl

-- the two zeros are level
under_zero : (z : Float) → lt z nought ≡ false → lt z (neg nought) ≡ false
unfolding lt neg
under_zero nan h = refl
under_zero (inf s) h = h
under_zero (fin false m e) h = refl
under_zero (fin true m e) h = le-ltb (0 * 1 * down e) (m * up e * 1) (gone (m * up e) (down e) (ltb-false 0 (m * up e * 1 + 0 * 1 * down e) h))
  where
    gone : (x d : ℕ) → x * 1 + 0 * 1 * d ≤ 0 → x * 1 ≤ 0 * 1 * d
    gone x d h = omega arith

over_zero : (z : Float) → lt nought z ≡ false → lt (neg nought) z ≡ false
unfolding lt neg
over_zero nan h = refl
over_zero (inf s) h = h
over_zero (fin true m e) h = le-ltb (m * up e * 1) (0 * 1 * down e) (zero (down e))
  where
    zero : (d : ℕ) → 0 * 1 * d ≤ m * up e * 1
    zero d = omega arith
over_zero (fin false m e) h = le-ltb 0 (0 * 1 * down e + m * up e * 1) (gone (m * up e) (down e) (ltb-false (0 * 1 * down e) (m * up e * 1) h))
  where
    gone : (x d : ℕ) → x * 1 ≤ 0 * 1 * d → 0 * 1 * d + x * 1 ≤ 0
    gone x d h = omega arith

module _ (a b : Float) where
  abbrev far : Float
  far = Number.add a (Number.mul one (Number.sub b a))

  abbrev near : Float
  near = Number.sub a zero_float

  near_is : near ≡ add binary64 a (neg nought)
  unfolding lib.Ieee.sub
  near_is = ap (λ (w : Float). add binary64 a (neg w)) nought_is

  -- z is not outside of what is made larger by `near` and then by `far`
  record Kept (l h z : Float) : Type 0 where
    under : lt z (lesser far (lesser near l)) ≡ false
    over : lt (greater far (greater near h)) z ≡ false

  module _ (l h t : Float) (p : Part t) where
    abbrev step : Float
    step = Number.mul t (Number.sub b a)

    far_number : is_nan (Number.add a step) ≡ false → is_nan far ≡ false
    far_number n = subst (λ (w : Float). is_nan (add binary64 a (mul binary64 w (Number.sub b a))) ≡ false) (sym whole_is) (end_number a b t p n)

    near_number : is_nan (Number.add a step) ≡ false → is_nan near ≡ false
    unfolding neg
    near_number n = rw near_is (start_number true a step n)

    kept_by : Between step (Number.mul one (Number.sub b a)) → Kept l h (Number.add a step)
    kept_by (upward e f) = record {
      under = still_not_below far (lesser near l) (Number.add a step) (low_takes (Number.add a step) near l (rw near_is (add_kept_second a step (neg nought) (under_zero step e))) near_number);
      over = high_takes (Number.add a step) far (greater near h) (add_kept_second a (Number.mul one (Number.sub b a)) step f) far_number;
    }
    kept_by (downward e f) = record {
      under = low_takes (Number.add a step) far (lesser near l) (add_kept_second a step (Number.mul one (Number.sub b a)) f) far_number;
      over = still_not_above far (greater near h) (Number.add a step) (high_takes (Number.add a step) near h (rw near_is (add_kept_second a (neg nought) step (over_zero step e))) near_number);
    }

    kept_step : Kept l h (Number.add a step)
    kept_step = kept_by (subst (λ (w : Float). Between step (mul binary64 w (Number.sub b a))) (sym whole_is) (mul_between t (Number.sub b a) p))

-- ---- a box, widened
module _ (s : Bounds) (a b : PlanarPoint) where
  pub widened_keeps : (z : PlanarPoint) → Within s.low s.high z → Within (widened s a b).low (widened s a b).high z
  unfolding widened
  widened_keeps z w = still_in _ _ _ z (still_in _ _ _ z (still_in s.low s.high a z w))

  start_held : Within (widened s a b).low (widened s a b).high a
  unfolding widened
  start_held = still_in _ _ _ a (still_in _ _ _ a (taken_in s.low s.high a))

  -- the box, where each coordinate is kept
  step_held : (t : Float) → Part t → Within (widened s a b).low (widened s a b).high (along a (sub b a) t)
  unfolding widened low high along sub
  step_held t p =
      let e = kept_step a.east b.east (lesser a.east s.low.east) (greater a.east s.high.east) t p in
      let n = kept_step a.north b.north (lesser a.north s.low.north) (greater a.north s.high.north) t p in
      record { west = e.under; east = e.over; south = n.under; north = n.over }

  pub widened_takes : (q : PlanarPoint) → Within (widened s a b).low (widened s a b).high (closest_on_segment q a b)
  unfolding closest_on_segment foot
  widened_takes q = go (le (dot (sub b a) (sub b a)) zero_float) (Number.div (dot (sub q a) (sub b a)) (dot (sub b a) (sub b a)))
    where
      go : (t : Bool) (x : Float) → Within (widened s a b).low (widened s a b).high (cond t a (along a (sub b a) (clamp x)))
      go true x = start_held
      go false x = step_held (clamp x) (clamped x)

-- ---- a box that lies beyond
abs_not_under : (x : Float) → lt (abs x) x ≡ false
unfolding lt abs
abs_not_under nan = refl
abs_not_under (inf false) = refl
abs_not_under (inf true) = refl
abs_not_under (fin false m e) = irreflexive (fin false m e)
abs_not_under (fin true m e) = refl

number_of_abs : (x b : Float) → lt (abs x) b ≡ true → is_nan x ≡ false
unfolding lt abs is_nan
number_of_abs nan b h = absurd (false≢true h)
number_of_abs (inf s) b h = refl
number_of_abs (fin s m e) b h = refl

abs_over : (b x : Float) → lt x b ≡ false → lt (abs x) b ≡ false
abs_over b x h = go (lt (abs x) b) refl
  where
    go : (t : Bool) → lt (abs x) b ≡ t → t ≡ false
    go true e = sym (lt_from (abs x) x b (number_of_abs x b e) e (abs_not_under x)) ∙ h
    go false e = refl

pub abs_neg : (x : Float) → abs (neg x) ≡ abs x
unfolding neg abs
abs_neg nan = refl
abs_neg (inf s) = refl
abs_neg (fin s m e) = refl

abs_under : (b x : Float) → lt (neg b) x ≡ false → lt (abs x) b ≡ false
abs_under b x h = subst (λ (z : Float). lt z b ≡ false) (abs_neg x) (abs_over b (neg x) (sym (lt_neg b (neg x)) ∙ ap (lt (neg b)) (neg_neg x) ∙ h))

-- x is not below y, and y is at least b
at_least_over : (b y x : Float) → le b y ≡ true → lt x y ≡ false → lt x b ≡ false
at_least_over b y x g h = go (lt x b) refl
  where
    go : (t : Bool) → lt x b ≡ t → t ≡ false
    go true e = sym g ∙ short x b y e h
    go false e = refl

at_most_under : (b y x : Float) → le y b ≡ true → lt y x ≡ false → lt b x ≡ false
at_most_under b y x g h = go (lt b x) refl
  where
    go : (t : Bool) → lt b x ≡ t → t ≡ false
    go true e = sym g ∙ past b x y e h
    go false e = refl

module _ (s : Bounds) (q z : PlanarPoint) (least : Float) (w : Within s.low s.high z) where
  long_east : lt (abs (sub z q).east) least ≡ false → lt (length_of (sub z q)) least ≡ false
  unfolding length_of sub
  long_east h = hypot_not_below _ _ least (sub-fits binary64 z.east q.east) h

  long_north : lt (abs (sub z q).north) least ≡ false → lt (length_of (sub z q)) least ≡ false
  unfolding length_of sub
  long_north h = subst (λ (x : Float). lt x least ≡ false) (hypot_swap _ _) (hypot_not_below _ _ least (sub-fits binary64 z.north q.north) h)

  beyond_long : beyond s q least ≡ true → lt (length_of (sub z q)) least ≡ false
  unfolding beyond sub
  beyond_long h = go _ _ _ _ refl refl refl refl h
    where
      go : (a b c d : Bool) → le least (sub s.low q).east ≡ a → le (sub s.high q).east (neg least) ≡ b → le least (sub s.low q).north ≡ c → le (sub s.high q).north (neg least) ≡ d →
          (a || (b || (c || d))) ≡ true → lt (length_of (sub z q)) least ≡ false
      go true b c d e f g k h = long_east (abs_over least _ (at_least_over least _ _ e (sub_kept z.east s.low.east q.east w.west)))
      go false true c d e f g k h = long_east (abs_under least _ (at_most_under (neg least) _ _ f (sub_kept s.high.east z.east q.east w.east)))
      go false false true d e f g k h = long_north (abs_over least _ (at_least_over least _ _ g (sub_kept z.north s.low.north q.north w.south)))
      go false false false true e f g k h = long_north (abs_under least _ (at_most_under (neg least) _ _ k (sub_kept s.high.north z.north q.north w.north)))
      go false false false false e f g k h = absurd (false≢true h)

-- no edge whose nearest points the box holds is nearer
pub beyond_not_nearer : BeyondNotNearer
unfolding gap_between gap_to
beyond_not_nearer s q a b least w h = beyond_long s q (closest_on_segment q a b) least w h
