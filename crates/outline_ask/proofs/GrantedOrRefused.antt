-- The answers to what is asked of a shape: where it is granted, and where it is refused. Assumes nothing.
use mathlib.Core.Path.{◌≡◌, refl, sym, ap, ◌∙◌}
use mathlib.Core.Bool.{Bool, true, false, cond, ◌&&◌}
use lib.Dec.{ltb}
use lib.Ieee.{Float}
use Rattle.math.specs.Number.{zero_float, distance}
use Rattle.plane.specs.declared.PlanarPoint.{PlanarPoint}
use Rattle.plane.specs.declared.Containment.{Containment}
use Rattle.plane.specs.declared.Containment.TheVariants.{Outside}
use Rattle.error.specs.declared.Refusal.{Refusal}
use Rattle.error.specs.declared.Refusal.TheVariants.{Granted}
use Rattle.error.specs.Refusals.{granted}
use Rattle.error.proofs.Laws.{granted_is}
use Rattle.outline_ask.specs.declared.Neared.{Neared}
use Rattle.ring_near.specs.declared.Nearest.{Nearest}
use Rattle.plane.specs.Points.{origin}
use Rattle.areas.specs.Areas.{area_if}
use Prim.Native.Nat.{ℕ}
use Rattle.outline_ask.specs.Queries.{placed, measured, footed, neared, edged, within}

module _ (r s : Refusal) (e : r ≡ s) where
  pub placed_yes : (x c : Containment) → x ≡ c → granted r ≡ true → record { refusal = Granted; place = x } ≡ placed s c
  unfolding placed
  placed_yes x c q h = let t : granted s ≡ true = sym (ap granted e) ∙ h in rw (t, q) refl

  pub placed_no : (c : Containment) → granted r ≡ false → record { refusal = r; place = Outside } ≡ placed s c
  unfolding placed
  placed_no c h = let t : granted s ≡ false = sym (ap granted e) ∙ h in rw (t, e) refl

  pub measured_yes : (x c : Float) → x ≡ c → granted r ≡ true → record { refusal = Granted; value = x } ≡ measured s c
  unfolding measured
  measured_yes x c q h = let t : granted s ≡ true = sym (ap granted e) ∙ h in rw (t, q) refl

  pub measured_no : (c : Float) → granted r ≡ false → record { refusal = r; value = zero_float } ≡ measured s c
  unfolding measured
  measured_no c h = let t : granted s ≡ false = sym (ap granted e) ∙ h in rw (t, e) refl

  pub area_yes : (x c : Float) → x ≡ c → granted r ≡ true → record { refusal = Granted; area = record { value = x } } ≡ area_if c s
  unfolding area_if
  area_yes x c q h = let t : granted s ≡ true = sym (ap granted e) ∙ h in rw (t, q) refl

  pub area_no : (c : Float) → granted r ≡ false → record { refusal = r; area = record { value = zero_float } } ≡ area_if c s
  unfolding area_if
  area_no c h = let t : granted s ≡ false = sym (ap granted e) ∙ h in rw (t, e) refl

  pub neared_yes : (x c : Nearest) (d : Float) → x ≡ c → d ≡ distance x.gap → granted r ≡ true → record { refusal = Granted; distance = d; point = x.foot } ≡ neared s c
  unfolding neared
  neared_yes x c d q w h = let t : granted s ≡ true = sym (ap granted e) ∙ h in rw (t, w, q) refl

  pub neared_no : (c : Nearest) → granted r ≡ false → record { refusal = r; distance = zero_float; point = origin } ≡ neared s c
  unfolding neared
  neared_no c h = let t : granted s ≡ false = sym (ap granted e) ∙ h in rw (t, e) refl

-- the distance and the point of the nearest, each by itself
pub distance_of : (a : Neared) (r : Refusal) (c : Nearest) → a ≡ neared r c → record { refusal = a.refusal; value = a.distance } ≡ measured r (distance c.gap)
unfolding neared measured
distance_of a r c e = rw e (go (granted r) refl)
  where
    go : (b : Bool) → granted r ≡ b → record { refusal = (neared r c).refusal; value = (neared r c).distance } ≡ measured r (distance c.gap)
    go true h = rw h refl
    go false h = rw h refl

pub point_of : (a : Neared) (r : Refusal) (c : Nearest) → a ≡ neared r c → record { refusal = a.refusal; point = a.point } ≡ footed r c.foot
unfolding neared footed
point_of a r c e = rw e (go (granted r) refl)
  where
    go : (b : Bool) → granted r ≡ b → record { refusal = (neared r c).refusal; point = (neared r c).point } ≡ footed r c.foot
    go true h = rw h refl
    go false h = rw h refl

-- the readers
module _ (r s : Refusal) (e : r ≡ s) (n k : ℕ) (g : Bool) (q : g ≡ granted r) where
  pub footed_within : (w v u : PlanarPoint) → w ≡ cond (g && ltb k n) v origin → v ≡ u → record { refusal = r; point = w } ≡ footed s (within n k u)
  unfolding footed within
  footed_within w v u h i = rw (h, q, i, e) (go (granted s) refl)
    where
      go : (b : Bool) → granted s ≡ b → record { refusal = s; point = cond (granted s && ltb k n) u origin } ≡ footed s (within n k u)
      go true h = rw (h, granted_is s h) refl
      go false h = rw h refl

  pub edged_within : (w v u x y z : PlanarPoint) → w ≡ cond (g && ltb k n) v origin → v ≡ u → x ≡ cond (g && ltb k n) y origin → y ≡ z →
      record { refusal = r; start = w; end = x } ≡ edged s (within n k u) (within n k z)
  unfolding edged within
  edged_within w v u x y z h i l j = rw (h, l, q, i, j, e) (go (granted s) refl)
    where
      go : (b : Bool) → granted s ≡ b → record { refusal = s; start = cond (granted s && ltb k n) u origin; end = cond (granted s && ltb k n) z origin } ≡ edged s (within n k u) (within n k z)
      go true h = rw (h, granted_is s h) refl
      go false h = rw h refl
