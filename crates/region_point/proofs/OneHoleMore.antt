-- One hole more: where a point lies, and the nearer of two points. Assumes nothing.
use Prim.Native.Nat.{ℕ, ◌+◌, ◌≤◌}
use mathlib.Core.Path.{◌≡◌, refl, ap, ◌∙◌}
use mathlib.Core.Bool.{Bool, true, false, cond}
use mathlib.Core.List.{List}
use lib.Ieee.{Float, lt}
use Rattle.plane.specs.declared.Containment.{Containment}
use Rattle.plane.specs.declared.Containment.TheVariants.{Inside, OnBoundary, Outside}
use Rattle.plane.specs.declared.PlanarPoint.{PlanarPoint}
use Rattle.ring_near.specs.declared.Nearest.{Nearest}
use Rattle.plane.specs.Points.{distance_to}
use Rattle.ring_contain.specs.Contains.{ring_contains}
use Rattle.ring_near.specs.Near.{nearer, nearest}
use Rattle.base.specs.Loop.{rounds}
use Rattle.base.proofs.Laws.{goes_on, ends}
use Rattle.region.specs.declared.Region.{Region}
use Rattle.region.specs.Regions.{hole_points, hole_count, in_hole, while_inside, closer, closest_step}
use Rattle.region_point.specs.Gaps.{gap_from}

-- ---- where a point lies

pub asks_hole : (s r x : Containment) (ps qs : List Float) (n m : ℕ) (p : PlanarPoint) → s ≡ Inside → n ≡ m → ps ≡ qs → x ≡ ring_contains ps n p → r ≡ in_hole x →
    r ≡ while_inside s (in_hole (ring_contains qs m p))
unfolding while_inside
asks_hole s r x ps qs n m p e c q i f = rw e (f ∙ ap in_hole (i ∙ rw (c, q) refl))

pub stays_on : (s x : Containment) → s ≡ OnBoundary → OnBoundary ≡ while_inside s x
unfolding while_inside
stays_on s x e = rw e refl

pub stays_out : (s x : Containment) → s ≡ Outside → Outside ≡ while_inside s x
unfolding while_inside
stays_out s x e = rw e refl

-- ---- the nearest point, with its distance

pub gap_is : (p : PlanarPoint) (a b : Nearest) (d : Float) → d ≡ distance_to p a.foot → a ≡ b → record { gap = d; foot = a.foot } ≡ gap_from p b.foot
unfolding gap_from
gap_is p a b d e f = rw (e, f) refl

-- the candidate of a hole whose numbers and count are known by equations
pub candidate : (x g best : Nearest) (p : PlanarPoint) (ps qs : List Float) (n m : ℕ) → x ≡ nearer g best → g ≡ gap_from p (nearest ps n p).foot → ps ≡ qs → n ≡ m →
    x ≡ nearer (gap_from p (nearest qs m p).foot) best
candidate x g best p ps qs n m e f q c = e ∙ rw (f, q, c) refl

-- the nearer of two points by their distances
gap_closer : (p q v : PlanarPoint) → nearer (gap_from p q) (gap_from p v) ≡ gap_from p (closer p q v)
unfolding nearer gap_from closer
gap_closer p q v = go (lt (distance_to p q) (distance_to p v))
  where
    go : (b : Bool) → cond b (gap_from p q) (gap_from p v) ≡ gap_from p (cond b q v)
    go true = refl
    go false = refl

-- the walk over the holes, each measured once
module _ (r : Region) (p v : PlanarPoint) where
  pub gap_goes_on : (k : ℕ) (s x : Nearest) → s ≡ gap_from p (rounds (closest_step r p) k v) → x ≡ nearer (gap_from p (nearest (hole_points r k) (hole_count r k) p).foot) s →
      x ≡ gap_from p (rounds (closest_step r p) (k + 1) v)
  unfolding closest_step
  gap_goes_on k s x e f =
      f ∙ ap (nearer (gap_from p (nearest (hole_points r k) (hole_count r k) p).foot)) e ∙ gap_closer p _ (rounds (closest_step r p) k v) ∙
      ap (gap_from p) (goes_on (closest_step r p) v _ _ k refl refl)

  pub gap_ends : (k n : ℕ) (s : Nearest) → k ≤ n → n ≤ k → s ≡ gap_from p (rounds (closest_step r p) k v) → s ≡ gap_from p (rounds (closest_step r p) n v)
  gap_ends k n s l h e = e ∙ ap (gap_from p) (ends (closest_step r p) v _ k n l h refl)
