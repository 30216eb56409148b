-- Segments in boxes apart: no end of the one lies in the other's box, so they meet only where they cross. Assumes nothing.
use mathlib.Core.Path.{◌≡◌, refl, sym, ◌∙◌}
use mathlib.Core.Bool.{Bool, true, false, cond, ◌&&◌, ◌||◌, false≢true}
use lib.Ieee.{Float, lt, le, eq}
use Rattle.math.specs.Number.{fmin, fmax}
use Rattle.plane.specs.declared.PlanarPoint.{PlanarPoint}
use Rattle.segment.specs.Segments.{within_box}
use Rattle.segment.specs.Boxes.{boxes_apart, Within}
use Rattle.math.proofs.Order.{past, nan_under, high_too}

-- ---- numbers that lie apart

number_left : (x y : Float) → lt x y ≡ true → eq x x ≡ true
number_left x y h = go (eq x x) refl
  where
    go : (t : Bool) → eq x x ≡ t → eq x x ≡ true
    go true e = e
    go false e = absurd (false≢true (sym (nan_under x y e) ∙ h))

-- x is not above a, which is below b, and y is not below b: y is not at most x
pub not_at_most : (a b x y : Float) → lt a b ≡ true → lt a x ≡ false → lt y b ≡ false → le y x ≡ false
not_at_most a b x y h f g = go (le y x) refl
  where
    go : (t : Bool) → le y x ≡ t → le y x ≡ false
    go true e = absurd (false≢true (sym (past a b y h g) ∙ high_too x a y (number_left a b h) f e))
    go false e = e

-- neither y is at most the greater x, and no x is at least the lesser y
record Below (x1 x2 y1 y2 : Float) : Type 0 where
  first : le y1 (fmax x1 x2) ≡ false
  second : le y2 (fmax x1 x2) ≡ false
  third : le (fmin y1 y2) x1 ≡ false
  fourth : le (fmin y1 y2) x2 ≡ false

module _ (a b x1 x2 y1 y2 : Float) (h : lt a b ≡ true) (e : lt a x1 ≡ false) (f : lt a x2 ≡ false) (g : lt y1 b ≡ false) (k : lt y2 b ≡ false) where
  most : lt a (fmax x1 x2) ≡ false
  unfolding fmax
  most = go (lt x2 x1) (eq x2 x2)
    where
      go : (t u : Bool) → lt a (cond t x1 (cond u x2 x1)) ≡ false
      go true u = e
      go false true = f
      go false false = e

  least : lt (fmin y1 y2) b ≡ false
  unfolding fmin
  least = go (lt y1 y2) (eq y2 y2)
    where
      go : (t u : Bool) → lt (cond t y1 (cond u y2 y1)) b ≡ false
      go true u = g
      go false true = k
      go false false = g

  below : Below x1 x2 y1 y2
  below = record {
    first = not_at_most a b (fmax x1 x2) y1 h most g;
    second = not_at_most a b (fmax x1 x2) y2 h most k;
    third = not_at_most a b x1 (fmin y1 y2) h e least;
    fourth = not_at_most a b x2 (fmin y1 y2) h f least;
  }

-- ---- boxes

no_1 : (a b c d : Bool) → a ≡ false → (a && (b && (c && d))) ≡ false
no_1 a b c d e = rw e refl

no_2 : (a b c d : Bool) → b ≡ false → (a && (b && (c && d))) ≡ false
no_2 true b c d e = rw e refl
no_2 false b c d e = refl

no_3 : (a b c d : Bool) → c ≡ false → (a && (b && (c && d))) ≡ false
no_3 true true c d e = rw e refl
no_3 true false c d e = refl
no_3 false b c d e = refl

no_4 : (a b c d : Bool) → d ≡ false → (a && (b && (c && d))) ≡ false
no_4 true true true d e = e
no_4 true true false d e = refl
no_4 true false c d e = refl
no_4 false b c d e = refl

module _ (a b p : PlanarPoint) where
  west_of : le (fmin a.east b.east) p.east ≡ false → within_box a b p ≡ false
  unfolding within_box
  west_of e = no_1 (le (fmin a.east b.east) p.east) (le p.east (fmax a.east b.east)) (le (fmin a.north b.north) p.north) (le p.north (fmax a.north b.north)) e

  east_of : le p.east (fmax a.east b.east) ≡ false → within_box a b p ≡ false
  unfolding within_box
  east_of e = no_2 (le (fmin a.east b.east) p.east) (le p.east (fmax a.east b.east)) (le (fmin a.north b.north) p.north) (le p.north (fmax a.north b.north)) e

  south_of : le (fmin a.north b.north) p.north ≡ false → within_box a b p ≡ false
  unfolding within_box
  south_of e = no_3 (le (fmin a.east b.east) p.east) (le p.east (fmax a.east b.east)) (le (fmin a.north b.north) p.north) (le p.north (fmax a.north b.north)) e

  north_of : le p.north (fmax a.north b.north) ≡ false → within_box a b p ≡ false
  unfolding within_box
  north_of e = no_4 (le (fmin a.east b.east) p.east) (le p.east (fmax a.east b.east)) (le (fmin a.north b.north) p.north) (le p.north (fmax a.north b.north)) e

-- no end of the one segment lies in the other's box
pub record Outside (a1 a2 b1 b2 : PlanarPoint) : Type 0 where
  pub first : within_box b1 b2 a1 ≡ false
  pub second : within_box b1 b2 a2 ≡ false
  pub third : within_box a1 a2 b1 ≡ false
  pub fourth : within_box a1 a2 b2 ≡ false

module _ (a1 a2 b1 b2 : PlanarPoint) where
  west : Below b1.east b2.east a1.east a2.east → Outside a1 a2 b1 b2
  west o = record { first = east_of b1 b2 a1 o.first; second = east_of b1 b2 a2 o.second; third = west_of a1 a2 b1 o.third; fourth = west_of a1 a2 b2 o.fourth }

  east : Below a1.east a2.east b1.east b2.east → Outside a1 a2 b1 b2
  east o = record { first = west_of b1 b2 a1 o.third; second = west_of b1 b2 a2 o.fourth; third = east_of a1 a2 b1 o.first; fourth = east_of a1 a2 b2 o.second }

  south : Below b1.north b2.north a1.north a2.north → Outside a1 a2 b1 b2
  south o = record { first = north_of b1 b2 a1 o.first; second = north_of b1 b2 a2 o.second; third = south_of a1 a2 b1 o.third; fourth = south_of a1 a2 b2 o.fourth }

  north : Below a1.north a2.north b1.north b2.north → Outside a1 a2 b1 b2
  north o = record { first = south_of b1 b2 a1 o.third; second = south_of b1 b2 a2 o.fourth; third = north_of a1 a2 b1 o.first; fourth = north_of a1 a2 b2 o.second }

  module _ (l h l2 h2 : PlanarPoint) (e : Within l h a1) (f : Within l h a2) (g : Within l2 h2 b1) (k : Within l2 h2 b2) where
    pub outside : boxes_apart l h l2 h2 ≡ true → Outside a1 a2 b1 b2
    unfolding boxes_apart
    outside t = go _ _ _ _ refl refl refl refl t
      where
        go :
            (p q r s : Bool) → lt h2.east l.east ≡ p → lt h.east l2.east ≡ q → lt h2.north l.north ≡ r →
            lt h.north l2.north ≡ s → (p || (q || (r || s))) ≡ true → Outside a1 a2 b1 b2
        go true q r s w x y z t = west (below _ _ _ _ _ _ w g.east k.east e.west f.west)
        go false true r s w x y z t = east (below _ _ _ _ _ _ x e.east f.east g.west k.west)
        go false false true s w x y z t = south (below _ _ _ _ _ _ y g.north k.north e.south f.south)
        go false false false true w x y z t = north (below _ _ _ _ _ _ z e.north f.north g.south k.south)
        go false false false false w x y z t = absurd (false≢true t)
