-- From the last check of an inset to the computed gap of each vertex from each edge: where the least gap is at least a number, no edge's gap
-- is below it. Assumes nothing.
use mathlib.Core.Path.{◌≡◌, refl, sym, ap, ◌∙◌}
use mathlib.Core.Bool.{Bool, true, false, true≢false}
use mathlib.Core.List.{List}
use Prim.Native.Nat.{ℕ, ◌<◌, ◌≤◌}
use lib.Ieee.{Float, nan, inf, fin, lt, le}
use Rattle.math.proofs.Order.{lt_from, lt_number}
use Rattle.math.specs.Number.{infinity, open_number}
use Rattle.plane.specs.declared.PlanarPoint.{PlanarPoint}
use Rattle.plane.specs.Points.{distance_to}
use Rattle.segment.specs.Segments.{closest_on_segment}
use Rattle.ring.specs.Ring.{vertex_at, edge_end}
use Rattle.ring_near.specs.Near.{gap_to, nearest}
use Rattle.ring_near.specs.Least.{Footed}
use Rattle.ring_near.proofs.Least.{not_below, nearest_least, nearest_foot}
use Rattle.region.specs.declared.Region.{Region}
use Rattle.region.specs.Regions.{ring_points, ring_count, distance_to_boundary}
use Rattle.region.proofs.Least.{boundary_least}

-- the computed gap of p from edge i
abbrev pub edge_gap : List Float → ℕ → PlanarPoint → ℕ → Float
edge_gap ps n p i = (gap_to p (closest_on_segment p (vertex_at ps i) (edge_end ps n i))).gap

-- ---- the order of gaps

-- not below the number y, which is not below z: not below z
not_below_it : (x y z : Float) → lt y infinity ≡ true → lt x y ≡ false → lt y z ≡ false → lt x z ≡ false
not_below_it x y z n h g = go (lt x z) refl
  where
    go : (b : Bool) → lt x z ≡ b → b ≡ false
    go true e = absurd (true≢false (sym (lt_from x y z (lt_number y infinity n) e h) ∙ g))
    go false e = refl

-- not below infinity: below nothing
below_nothing : (x z : Float) → lt x infinity ≡ false → lt x z ≡ false
unfolding lt open_number
below_nothing nan z h = refl
below_nothing (inf true) z h = absurd (true≢false h)
below_nothing (inf false) nan h = refl
below_nothing (inf false) (inf t) h = refl
below_nothing (inf false) (fin t n d) h = refl
below_nothing (fin s m e) z h = absurd (true≢false h)

-- ---- an outline: its least gap is at least z

pub gap_reached : (ps : List Float) (n : ℕ) (p : PlanarPoint) (z : Float) → le z (nearest ps n p).gap ≡ true →
    (i : ℕ) → i < n → lt (edge_gap ps n p i) z ≡ false
gap_reached ps n p z h i l = not_below (edge_gap ps n p i) z (nearest ps n p).gap h (nearest_least ps n p i l)

-- ---- a region: the distance to its boundary is at least z

-- a ring whose nearest point is not below z away
foot_reached : (ps : List Float) (n : ℕ) (p : PlanarPoint) (z : Float) → lt (distance_to p (nearest ps n p).foot) z ≡ false →
    (i : ℕ) → i < n → lt (edge_gap ps n p i) z ≡ false
foot_reached ps n p z h i l = go (lt (nearest ps n p).gap infinity) refl
  where
    foot : Footed p (nearest ps n p)
    foot = nearest_foot ps n p

    least : lt (edge_gap ps n p i) (nearest ps n p).gap ≡ false
    least = nearest_least ps n p i l

    go : (b : Bool) → lt (nearest ps n p).gap infinity ≡ b → lt (edge_gap ps n p i) z ≡ false
    go true e = not_below_it (edge_gap ps n p i) (nearest ps n p).gap z e least (ap (λ (x : Float). lt x z) (sym (foot.below e)) ∙ h)
    go false e = below_nothing (edge_gap ps n p i) z (ap (lt (edge_gap ps n p i)) (sym (foot.top e)) ∙ least)

pub boundary_reached : (r : Region) (p : PlanarPoint) (z : Float) → le z (distance_to_boundary r p) ≡ true →
    (l : ℕ) → l ≤ r.holes → (i : ℕ) → i < ring_count r l → lt (edge_gap (ring_points r l) (ring_count r l) p i) z ≡ false
boundary_reached r p z h l a =
    foot_reached (ring_points r l) (ring_count r l) p z
    (not_below (distance_to p (nearest (ring_points r l) (ring_count r l) p).foot) z (distance_to_boundary r p) h (boundary_least r p l a))
