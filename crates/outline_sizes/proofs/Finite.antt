-- Points whose coordinates are at most 1e9 in size, as question 21 asks, have finite gaps: none is infinite and none is a NaN. Assumes nothing.
use Prim.Native.Nat.{ℕ, suc, ◌+◌, ◌*◌, ◌≤◌, ◌<◌}
use native.Mathlib.Nat.{le_trans, le_of_eq, one-mul, zero-mul}
use native.Mathlib.Omega.{arith}
use mathlib.Core.Path.{◌≡◌, refl, sym, ap, ◌∙◌, subst}
use mathlib.Core.Bool.{Bool, true, false, cond, and-eq-true_iff, true≢false}
use mathlib.Core.List.{List}
use borrow.Author.Tests.{eqb-true}
use lib.Dec.{T, eqb}
use lib.IntN.{ℤ}
use lib.Ieee.{Float, nan, inf, fin, binary64, fits, up, down, unlike, round, lt, le, is_nan}
use lib.Ieee.Bits.{of_bits-fits}
use lib.Ieee.Fits.{sub-fits}
use Rattle.hypotenuse.specs.Hypot.{hypot}
use Rattle.base.proofs.Choices.{both}
use Rattle.math.specs.Number.{zero_float, one, infinity, add, mul, div, raised, clamp, open_number}
use Rattle.math.proofs.Order.{lt_from}
use Rattle.plane.specs.declared.PlanarPoint.{PlanarPoint}
use Rattle.plane.specs.Plane
use Rattle.plane.specs.Plane.{point, dot}
use Rattle.plane.specs.Points.{length_of}
use Rattle.segment.specs.Segments.{along, foot, closest_on_segment}
use Rattle.ring.specs.Ring.{vertex_at, edge_end}
use Rattle.ring.proofs.Vertices.{following_lt}
use Rattle.ring_near.specs.Near.{gap_to, more, tiny, clearly}
use Rattle.ring_near.proofs.Leads.{vectors_apart}
use Rattle.ring_gap.specs.Gap.{least_between}
use Rattle.ring_gap.specs.Blocks.{gap_between, edge_gap}
use Rattle.ring_gap.proofs.Monotone.{round_signed, signed_number, Part, part_size}
use Rattle.ring_gap.proofs.Boxed.{clamped}
use Rattle.ring_gap.proofs.LeastOf.{least_number}
use Rattle.ring_gap.proofs.Between.{both_is, between_tells}
use Rattle.outline.specs.Outlines.{in_range}
use Rattle.front.proofs.Demand.Small.{Small, wider, add_small, sub_small, mul_small}
use Rattle.front.proofs.Demand.Rates.{SmallPoint, dot_small}
use Rattle.front.proofs.Demand.Shapes.{vertices}

below_infinity : (k : ℕ) (x : Float) → Small k x → lt x infinity ≡ true
unfolding open_number
below_infinity k nan h = absurd h
below_infinity k (inf s) h = absurd h
below_infinity k (fin s m e) h = refl

-- ---- a clamped quotient of finite numbers, the second above 0
zero_at_most : (t : Bool) (d : ℤ) → le (fin t 0 d) zero_float ≡ true
unfolding open_number
zero_at_most false d = rw (zero-mul (up d), zero-mul (down d)) refl
zero_at_most true d = rw (zero-mul (up d), zero-mul (down d)) refl

quotient_number : (j k : ℕ) (x y : Float) → Small j x → Small k y → le y zero_float ≡ false → is_nan (div x y) ≡ false
unfolding lib.Ieee.div
quotient_number j k nan y p q h = absurd p
quotient_number j k (inf s) y p q h = absurd p
quotient_number j k (fin s m e) nan p q h = absurd q
quotient_number j k (fin s m e) (inf t) p q h = absurd q
quotient_number j k (fin s m e) (fin t n d) p q h = go (eqb n 0) refl
  where
    go : (b : Bool) → eqb n 0 ≡ b →
        is_nan (cond b (cond (eqb m 0) nan (inf (unlike s t))) (round binary64 (unlike s t) (m * up e * down d) (n * up d * down e))) ≡ false
    go true f = absurd (true≢false (sym (zero_at_most t d) ∙ ap (λ (z : ℕ). le (fin t z d) zero_float) (sym (eqb-true n 0 f)) ∙ h))
    go false f = signed_number (unlike s t) _ (round_signed (unlike s t) (m * up e * down d) (n * up d * down e))

clamp_number : (x : Float) → is_nan x ≡ false → is_nan (clamp x) ≡ false
unfolding open_number is_nan
clamp_number x h = both Number (lt one (raised x)) refl (both Number (lt x zero_float) refl h)
  where
    Number : Float → Type 0
    Number z = is_nan z ≡ false

part_small : (t : Float) → is_nan t ≡ false → Part t → Small 0 t
unfolding lt is_nan
part_small nan h p = absurd (true≢false h)
part_small (inf false) h p = absurd (true≢false p.high)
part_small (inf true) h p = absurd (true≢false p.low)
part_small (fin s m e) h p = le_trans (part_size s m e p).0 (le_of_eq (sym (one-mul (down e))))

-- ---- points, both coordinates
wider_point : (j k : ℕ) (p : PlanarPoint) → j ≤ k → SmallPoint j p → SmallPoint k p
wider_point j k p l h = record { east = wider j k p.east l h.east; north = wider j k p.north l h.north }

sub_point : (k : ℕ) (a b : PlanarPoint) → suc k ≤ 1023 → SmallPoint k a → SmallPoint k b → SmallPoint (suc k) (Plane.sub a b)
unfolding Plane.sub
sub_point k a b l p q = record {
  east = sub_small k a.east b.east l p.east q.east;
  north = sub_small k a.north b.north l p.north q.north;
}

-- a + t v, where t is at most 1
along_point : (k : ℕ) (a v : PlanarPoint) (t : Float) → suc k ≤ 1023 → SmallPoint k a → SmallPoint k v → Small 0 t → SmallPoint (suc k) (along a v t)
unfolding along
along_point k a v t l p q h = record { east = step a.east v.east p.east q.east; north = step a.north v.north p.north q.north }
  where
    step : (x y : Float) → Small k x → Small k y → Small (suc k) (add x (mul t y))
    step x y p q = add_small k x (mul t y) l p (wider (0 + k) k (mul t y) (omega arith) (mul_small 0 k t y (omega arith) h q))

-- ---- a vector whose square is finite is shorter than (infinity, 0)
abbrev top : PlanarPoint
top = point infinity zero_float

top_square : dot top top ≡ infinity
unfolding dot open_number
top_square = refl

top_long : length_of top ≡ infinity
unfolding length_of hypot open_number
top_long = refl

clearly_below : (x : Float) → Small 67 x → clearly x infinity ≡ true
unfolding clearly
clearly_below x h = (and-eq-true_iff _ _).1 (below_infinity 68 (mul more x) (mul_small 1 67 more x (omega arith) more_small h), tiny_below)
  where
    more_small : Small 1 more
    more_small = unfold open_number in omega arith

    tiny_below : lt tiny infinity ≡ true
    tiny_below = unfold open_number in refl

length_below : (v : PlanarPoint) → T (fits binary64 v.east) → T (fits binary64 v.north) → SmallPoint 33 v → lt (length_of v) infinity ≡ true
length_below v fe fn h =
    subst (λ (x : Float). lt (length_of v) x ≡ true) top_long
    (vectors_apart v top fe fn (of_bits-fits binary64 0x7ff0000000000000) (of_bits-fits binary64 0x0)
    (ap (clearly (dot v v)) top_square ∙ clearly_below (dot v v) (dot_small 33 33 v v (omega arith) h h)))

-- ---- the gap of a point from an edge: 2 ^ 30 for the points, 2 ^ 31 for b - a, 2 ^ 32 for the foot, 2 ^ 33 for the vector to it
module _ (q a b : PlanarPoint) (sq : SmallPoint 30 q) (sa : SmallPoint 30 a) (sb : SmallPoint 30 b) where
  foot_small : SmallPoint 32 (closest_on_segment q a b)
  unfolding closest_on_segment foot
  foot_small = go (le (dot (Plane.sub b a) (Plane.sub b a)) zero_float) refl
    where
      sv : SmallPoint 31 (Plane.sub b a)
      sv = sub_point 30 b a (omega arith) sb sa

      go : (t : Bool) → le (dot (Plane.sub b a) (Plane.sub b a)) zero_float ≡ t →
          SmallPoint 32 (cond t a (along a (Plane.sub b a) (clamp (div (dot (Plane.sub q a) (Plane.sub b a)) (dot (Plane.sub b a) (Plane.sub b a))))))
      go true e = wider_point 30 32 a (omega arith) sa
      go false e =
          let n = quotient_number 63 63 _ _ (dot_small 31 31 (Plane.sub q a) (Plane.sub b a) (omega arith) (sub_point 30 q a (omega arith) sq sa) sv) (dot_small 31 31 (Plane.sub b a) (Plane.sub b a) (omega arith) sv sv) e in
          along_point 31 a (Plane.sub b a) _ (omega arith) (wider_point 30 31 a (omega arith) sa) sv (part_small _ (clamp_number _ n) (clamped _))

  gap_finite : lt (gap_between q a b) infinity ≡ true
  unfolding gap_between gap_to Plane.sub
  gap_finite =
      let z = closest_on_segment q a b in
      length_below (Plane.sub z q) (sub-fits binary64 z.east q.east) (sub-fits binary64 z.north q.north)
      (sub_point 32 z q (omega arith) foot_small (wider_point 30 32 q (omega arith) sq))

-- of two rings with a vertex each, in range: the first vertex of the second has a finite gap from the first edge of the first
pub least_finite : (ps : List Float) (n : ℕ) (qs : List Float) (m : ℕ) → 0 < n → 0 < m → in_range ps n ≡ true → in_range qs m ≡ true → lt (least_between ps n qs m) infinity ≡ true
unfolding edge_gap edge_end
least_finite ps n qs m l h rp rq =
    lt_from (edge_gap ps n 0 (vertex_at qs 0)) (least_between ps n qs m) infinity (least_number _ _ (both_is ps n qs m))
    (gap_finite (vertex_at qs 0) (vertex_at ps 0) (edge_end ps n 0) (vertices qs m rq 0 h) (vertices ps n rp 0 l) (vertices ps n rp _ (following_lt n 0 l))) (between_tells.of_second ps n qs m 0 0 h l)
