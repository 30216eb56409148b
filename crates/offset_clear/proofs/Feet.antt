-- The distance to a ring's nearest point is its least gap, where the first edge's is below infinity. Assumes nothing.
use Prim.Native.Nat.{ℕ, ◌<◌}
use mathlib.Core.Path.{◌≡◌, refl, sym, ap, ◌∙◌, subst}
use mathlib.Core.Bool.{Bool, true, false, cond, ◌&&◌, and-eq-true_iff}
use mathlib.Core.List.{List}
use borrow.Author.Tests.{ltb-true}
use lib.Dec.{T, ltb}
use lib.Ieee.{Float, binary64, lt, le, fits}
use lib.Ieee.Fits.{sub-fits}
use lib.Ieee.Bits.{of_bits-fits}
use Rattle.hypotenuse.specs.Hypot.{hypot}
use Rattle.math.specs.Number.{infinity, zero_float, mul, open_number}
use Rattle.plane.specs.declared.PlanarPoint.{PlanarPoint}
use Rattle.plane.specs.Plane.{sub, dot}
use Rattle.plane.specs.Points.{length_of, distance_to}
use Rattle.segment.specs.Segments.{closest_on_segment}
use Rattle.ring.specs.Ring.{vertex_at, edge_end}
use Rattle.ring_near.specs.Near
use Rattle.ring_near.specs.Near.{nearest, clearly}
use Rattle.ring_near.proofs.Clear.{clearly_less}
use Rattle.ring_near.proofs.Least.{nearest_foot}
use Rattle.offset_clear.specs.Gaps.{falls_short}
use Rattle.offset_clear.proofs.Folds.{short_step, gap_below}
use Rattle.base.proofs.Tests.{found_at}
use Rattle.ring_near.proofs.Leads.{more_is, tiny_is}
use Rattle.offset_clear.specs.Rings.{surely}

-- ---- a square clearly below infinity

top_is : hypot infinity zero_float ≡ infinity
unfolding hypot open_number
top_is = refl

-- as the square of the vector (infinity, 0)
top_square : dot (record { east = infinity; north = zero_float }) (record { east = infinity; north = zero_float }) ≡ infinity
unfolding dot open_number
top_square = refl

below_top : (v : PlanarPoint) → T (fits binary64 v.east) → T (fits binary64 v.north) → clearly (dot v v) infinity ≡ true → lt (length_of v) infinity ≡ true
unfolding clearly dot length_of
below_top v fe fn h =
    let c = (and-eq-true_iff (lt (mul Near.more (dot v v)) infinity) (lt Near.tiny infinity)).0 h in
    subst (λ (x : Float). lt (hypot v.east v.north) x ≡ true) top_is
    (clearly_less v.east v.north infinity zero_float fe fn (of_bits-fits binary64 0x7ff0000000000000) (of_bits-fits binary64 0x0)
    (subst (λ (m : Float). lt (mul m (dot v v)) (dot (record { east = infinity; north = zero_float }) (record { east = infinity; north = zero_float })) ≡ true) more_is
    (ap (lt (mul Near.more (dot v v))) top_square ∙ c.0))
    (subst (λ (m : Float). lt m (dot (record { east = infinity; north = zero_float }) (record { east = infinity; north = zero_float })) ≡ true) tiny_is (ap (lt Near.tiny) top_square ∙ c.1)))

edge_below : (p a b : PlanarPoint) → surely p a b ≡ true → falls_short p a b infinity ≡ true
unfolding surely falls_short sub
edge_below p a b h =
    let q = closest_on_segment p a b in
    below_top (sub q p) (sub-fits binary64 q.east p.east) (sub-fits binary64 q.north p.north) h

-- ---- the least gap below infinity

module _ (ps : List Float) (n : ℕ) (p : PlanarPoint) where
  gap_finite : 0 < n → surely p (vertex_at ps 0) (edge_end ps n 0) ≡ true → lt (nearest ps n p).gap infinity ≡ true
  unfolding short_step
  gap_finite l h =
      gap_below ps n p infinity ∙
      found_at (short_step ps n p infinity) (λ (j : ℕ). falls_short p (vertex_at ps j) (edge_end ps n j) infinity) (λ (j : ℕ) (s : Bool). refl) n 0 l
      (edge_below p (vertex_at ps 0) (edge_end ps n 0) h)

  -- ---- what the code asks
  module _ (least : Float) (a b : PlanarPoint) (s : Bool) (ea : a ≡ vertex_at ps 0) (eb : b ≡ edge_end ps n 0) (es : s ≡ surely p a b) where
    pub reaches_gap : (r : Bool) → (ltb 0 n && s) ≡ true → r ≡ le least (nearest ps n p).gap → r ≡ le least (distance_to p (nearest ps n p).foot)
    reaches_gap r h e =
        let c = (and-eq-true_iff (ltb 0 n) s).0 h in
        e ∙ ap (le least) (sym ((nearest_foot ps n p).below (gap_finite (ltb-true 0 n c.0) (rw (← ea, ← eb) (sym es ∙ c.1)))))

-- ---- by the nearest point, or by the least gap
module _ (foot : Bool) (least x y : Float) (r : Bool) where
  pub by_foot : foot ≡ true → r ≡ le least x → r ≡ le least (cond foot x y)
  by_foot h e = rw h e

  pub by_gap : foot ≡ false → r ≡ le least y → r ≡ le least (cond foot x y)
  by_gap h e = rw h e
