-- A vertex is clear of a region where it is clear of each of its rings: the nearest of the nearest points is as far as the least of their distances. Assumes nothing.
use Prim.Native.Nat.{ℕ, zero, suc}
use mathlib.Core.Path.{◌≡◌, refl, sym, ap, ◌∙◌}
use mathlib.Core.Bool.{Bool, true, false, cond, ◌&&◌, true≢false, and-false, and_self}
use lib.Ieee.{Float, nan, inf, fin, lt, le, eq, is_nan}
use Rattle.base.specs.Loop.{rounds}
use Rattle.math.specs.Number.{finite, distance, open_number}
use Rattle.plane.specs.declared.PlanarPoint.{PlanarPoint}
use Rattle.plane.specs.declared.Containment.{Containment}
use Rattle.plane.specs.declared.Containment.TheVariants.{Inside, OnBoundary, Outside}
use Rattle.plane.specs.Points.{length_of, distance_to}
use Rattle.plane.specs.Plane.{sub}
use Rattle.ring_contain.specs.Contains.{ring_contains}
use Rattle.ring_near.specs.Near.{nearest}
use Rattle.offset.specs.Clear.{is_inside, is_outside, right_side}
use Rattle.math.proofs.Order.{under_not_over, at_least, lt_trans, lt_from}
use Rattle.region.specs.declared.Region.{Region}
use Rattle.region.specs.Regions.{hole_points, hole_count, in_hole, while_inside, contains_step, region_contains, closer, closest_step, closest_boundary_point, distance_to_boundary}
use Rattle.region.specs.Insets.{clear_of_region}
use Rattle.offset_clear.specs.Rings.{ring_clear_of}

-- ---- the lesser of two numbers is at least a third where both are

at_least_by : (b g : Float) → is_nan g ≡ false → le b g ≡ cond (lt g b) false (eq b b)
at_least_by b g n = go (lt g b) refl
  where
    go : (t : Bool) → lt g b ≡ t → le b g ≡ cond t false (eq b b)
    go true h = under_not_over g b h
    go false h = at_least b g n h

lesser : (x y b : Float) → is_nan x ≡ false → is_nan y ≡ false → le b (cond (lt x y) x y) ≡ (le b y && le b x)
lesser x y b nx ny = go (lt x y) (lt x b) (lt y b) refl refl refl
  where
    step : (t u v : Bool) → lt x y ≡ t → lt x b ≡ u → lt y b ≡ v → cond (cond t u v) false (eq b b) ≡ (cond v false (eq b b) && cond u false (eq b b))
    step true true v e f g = sym (and-false (cond v false (eq b b)))
    step true false true e f g = absurd (true≢false (sym (lt_trans x y b e g) ∙ f))
    step true false false e f g = sym (and_self (eq b b))
    step false u true e f g = refl
    step false true false e f g = absurd (true≢false (sym (lt_from x y b ny f e) ∙ g))
    step false false false e f g = sym (and_self (eq b b))

    pick : (t u v : Bool) → lt x b ≡ u → lt y b ≡ v → le b (cond t x y) ≡ cond (cond t u v) false (eq b b)
    pick true u v f g = at_least_by b x nx ∙ ap (λ (z : Bool). cond z false (eq b b)) f
    pick false u v f g = at_least_by b y ny ∙ ap (λ (z : Bool). cond z false (eq b b)) g

    go : (t u v : Bool) → lt x y ≡ t → lt x b ≡ u → lt y b ≡ v → le b (cond (lt x y) x y) ≡ (le b y && le b x)
    go t u v e f g = rw (at_least_by b y ny, at_least_by b x nx, f, g) (ap (λ (z : Bool). le b (cond z x y)) e ∙ pick t u v f g ∙ step t u v e f g)

distance_number : (x : Float) → is_nan (distance x) ≡ false
unfolding distance finite is_nan open_number
distance_number nan = refl
distance_number (inf s) = refl
distance_number (fin s m e) = refl

distance_to_number : (p q : PlanarPoint) → is_nan (distance_to p q) ≡ false
unfolding distance_to
distance_to_number p q = distance_number (length_of (sub q p))

-- ---- of two points

closer_reaches : (least : Float) (p candidate best : PlanarPoint) → le least (distance_to p (closer p candidate best)) ≡ (le least (distance_to p best) && le least (distance_to p candidate))
unfolding closer
closer_reaches least p candidate best =
    pull (lt (distance_to p candidate) (distance_to p best)) ∙
    lesser (distance_to p candidate) (distance_to p best) least (distance_to_number p candidate) (distance_to_number p best)
  where
    pull : (t : Bool) → le least (distance_to p (cond t candidate best)) ≡ le least (cond t (distance_to p candidate) (distance_to p best))
    pull true = refl
    pull false = refl

-- ---- inside the region: inside the outer ring, and outside each hole

still_inside : (s c : Containment) → is_inside (while_inside s (in_hole c)) ≡ (is_inside s && is_outside c)
unfolding is_inside is_outside while_inside in_hole
still_inside Inside Inside = refl
still_inside Inside OnBoundary = refl
still_inside Inside Outside = refl
still_inside OnBoundary c = refl
still_inside Outside c = refl

regroup : (a b x y : Bool) → ((a && x) && (b && y)) ≡ ((a && b) && (x && y))
regroup true true x y = refl
regroup true false true y = refl
regroup true false false y = refl
regroup false b x y = refl

-- ---- one hole after the other

unfoldable pub clear_step : Float → Region → PlanarPoint → ℕ → Bool → Bool
clear_step least r p k s = s && ring_clear_of true least (hole_points r k) (hole_count r k) p

module _ (least : Float) (r : Region) (p : PlanarPoint) where
  so_far : (n : ℕ) (c : Containment) (q : PlanarPoint) →
      (is_inside (rounds (contains_step r p) n c) && le least (distance_to p (rounds (closest_step r p) n q))) ≡ rounds (clear_step least r p) n
      (is_inside c && le least (distance_to p q))
  unfolding rounds contains_step closest_step clear_step ring_clear_of right_side
  so_far zero c q = refl
  so_far (suc n) c q =
      let s = rounds (contains_step r p) n c in
      let best = rounds (closest_step r p) n q in
      let hole = ring_contains (hole_points r n) (hole_count r n) p in
      let foot = (nearest (hole_points r n) (hole_count r n) p).foot in
      rw (still_inside s hole, closer_reaches least p foot best)
      (regroup (is_inside s) (le least (distance_to p best)) (is_outside hole) (le least (distance_to p foot)) ∙
      ap (λ (b : Bool). b && (is_outside hole && le least (distance_to p foot))) (so_far n c q))

  pub clear_by_rings : clear_of_region least r p ≡ rounds (clear_step least r p) r.holes (ring_clear_of false least r.outer.points r.outer.count p)
  unfolding clear_of_region region_contains distance_to_boundary closest_boundary_point ring_clear_of right_side
  clear_by_rings = so_far r.holes (ring_contains r.outer.points r.outer.count p) (nearest r.outer.points r.outer.count p).foot
