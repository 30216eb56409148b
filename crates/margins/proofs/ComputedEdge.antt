-- The margin from one edge, over the floats as `closest_on_segment` works them out: an edge that is not tiny with the foot that is computed,
-- a tiny one with any fraction, or with its start where the computed squared length is 0. Assumes nothing.
use mathlib.Core.Path.{◌≡◌}
use mathlib.Core.Bool.{Bool, false, cond}
use Prim.Native.Nat.{ℕ, ◌+◌, ◌*◌, ◌^◌, ◌≤◌, ◌<◌, zero-le}
use native.Mathlib.Nat.{le_refl, lt_of_lt_of_le, mul-pos, mul-le-mul, mul-le-mul_right}
use native.Mathlib.Omega.{arith}
use lib.Pow.{pow_pos}
use lib.Ieee.{Float}
use Rattle.math.specs.Number.{clamp, div}
use Rattle.plane.specs.declared.PlanarPoint.{PlanarPoint}
use Rattle.plane.specs.Plane.{sub, dot}
use Rattle.segment.specs.Segments.{along}
use Rattle.math.proofs.Signed.{Signed, ◌⊖◌, size, Close, Small, small_more, small_add, small_product, Vector, from_to, inner, norm}
use Rattle.math.proofs.Operations.{unit, Is}
use Rattle.margins.proofs.Scale.{Scale, coarse_enough}
use Rattle.margins.proofs.DotProduct.{At, Parts, Apart, differences, coarser, Term, dot_term}
use Rattle.margins.proofs.FootVector.{Placed, axis, axis_start}
use Rattle.margins.proofs.Quotient.{Length, Divisor, divisor, FootOf, quotient}
use Rattle.margins.proofs.AnyFraction.{FractionOf, any_fraction}
use Rattle.margins.proofs.Apart.{norm_is}
use Rattle.margins.proofs.Gaps.{GapOf}
use Rattle.margins.proofs.ExactEdge.{Kept, Reaching, reached, reached_at, edge_long, edge_short}

-- along one axis: the edge from a to b is at most H long, and the point p near it
pub record Sized (a b p : Signed) (R H : ℕ) : Type 0 where
  pub edge : Apart a b H
  pub vector : Apart a p (2 * R)
  pub placed : Placed a p R

-- both axes
pub record Figure (A B P : Vector) (R H : ℕ) : Type 0 where
  pub scale : Scale R H
  pub east : Sized A.east B.east P.east R H
  pub north : Sized A.north B.north P.north R H

-- the fraction of the foot, as computed
abbrev pub fraction : PlanarPoint → PlanarPoint → PlanarPoint → Float
fraction a b p = clamp (div (dot (sub p a) (sub b a)) (dot (sub b a) (sub b a)))

-- the point that is found: the start where the computed squared length is not above 0
abbrev pub found : PlanarPoint → PlanarPoint → PlanarPoint → Bool → PlanarPoint
found a b p o = cond o a (along a (sub b a) (fraction a b p))

module _ {a b p : PlanarPoint} {A B P : Vector} (ia : At a A) (ib : At b B) (ip : At p P) {R H : ℕ} (f : Figure A B P R H) where
  abbrev x : Vector
  x = from_to A B

  abbrev w : Vector
  w = from_to A P

  -- the computed squared length, and the computed foot
  abbrev squared_length : Float
  squared_length = dot (sub b a) (sub b a)

  abbrev closest : PlanarPoint
  closest = found a b p false

  -- the edge and the vector to p, as computed
  side : Parts (sub b a) (from_to A B) (2 ^ 52) H H
  side = differences ia ib f.east.edge f.north.edge f.scale.wide

  coarse_side : Parts (sub b a) (from_to A B) (2 ^ 51) R (2 * R)
  coarse_side = coarser R f.scale.width side

  way : Parts (sub p a) (from_to A P) (2 ^ 51) R (2 * R)
  way = coarser R (le_refl (2 * R)) (differences ia ip f.east.vector f.north.vector (coarse_enough f.scale.range))

  -- the squared length of the edge
  pub squared : Term squared_length (norm x ⊖ 0) unit (2 ^ 46) (R * H)
  squared =
      let t = dot_term f.scale coarse_side side in
      record { units = t.units; e = t.e; is = t.is; close = plain (inner x x) (norm x) (norm_is x) t.close; bound = t.bound }
    where
      plain : {r : Signed} {e : ℕ} (a : Signed) (l : ℕ) → a.plus + 0 ≡ a.minus + l → Close r a e → Close r (l ⊖ 0) e
      plain a l h c = record { above = omega (arith, c.above); below = omega (arith, c.below) }

  -- the computed vector to the point of the fraction t
  reaching : {t : Float} (T : ℕ) → Is t (T ⊖ 0) → T ≤ unit → Reaching (sub (along a (sub b a) t) p) w x T unit R
  unfolding sub along
  reaching T v l = record {
    east = axis f.scale.range ia.east ip.east f.east.placed T v l coarse_side.east;
    north = axis f.scale.range ia.north ip.north f.north.placed T v l coarse_side.north;
  }

  reaching_start : Reaching (sub a p) w x 0 unit R
  unfolding sub
  reaching_start = record {
    east = axis_start f.scale.range ia.east ip.east f.east.placed x.east;
    north = axis_start f.scale.range ia.north ip.north f.north.placed x.north;
  }

  -- ---- an edge that is not tiny
  module _ (long : R < 2 ^ 45 * H) (hl : H * H ≤ norm x) where
    some : 0 < H
    some = lt_of_lt_of_le (pow_pos 52) f.scale.wide

    length : Divisor squared_length (norm x) H (R * H)
    length = divisor squared hl some long

    -- its computed squared length is above 0
    pub long_length : Length squared_length
    long_length = length.length

    foot : FootOf (fraction a b p) (norm x) (inner w x) (R * H)
    foot = quotient (dot_term f.scale way side) small length (most (size_in f.east.edge.small) (size_in f.north.edge.small)) some long
      where
        small : Small (inner w x) (4 * (R * H))
        small =
            small_more
            (small_add (small_product f.east.vector.small f.east.edge.small) (small_product f.north.vector.small f.north.edge.small))
            (omega arith)

        size_in : {a : Signed} {e : ℕ} → Small a e → size a ≤ e
        size_in s = let h = s.above in let k = s.below in omega arith

        most : {a b : ℕ} → a ≤ H → b ≤ H → a * a + b * b ≤ 4 * (R * H)
        most {a} {b} h k = last (a * a) (b * b) (mul-le-mul h h) (mul-le-mul k k) (mul-le-mul_right H f.scale.width)
          where
            last : (c d : ℕ) → c ≤ H * H → d ≤ H * H → H * H ≤ 2 * R * H → c + d ≤ 4 * (R * H)
            last c d x y z = omega arith

    pub far_long : {D M n : ℕ} (i j : ℕ) → i ≤ j → 0 < j → GapOf (sub closest p) D M R n → Kept n w x i j
    far_long i j ij jp gap =
        let v = reaching foot.t foot.is foot.at_most in
        edge_long v (gap (reached v) (reached_at v)) i j ij jp H foot.r
        foot.foot foot.bound hl (lt_of_lt_of_le (mul-pos some some) hl)

  -- ---- a tiny edge
  module _ (tiny : 2 ^ 45 * H ≤ R) where
    -- the foot is the start
    pub far_start : {D M n : ℕ} (i j : ℕ) → i ≤ j → 0 < j → GapOf (sub a p) D M R n → Kept n w x i j
    far_start i j ij jp gap =
        let v = reaching_start in
        edge_short v (gap (reached v) (reached_at v)) i j ij jp H
        zero-le f.east.edge.small f.north.edge.small tiny

    -- the squared length came out above 0
    pub far_between : Length squared_length → {D M n : ℕ} (i j : ℕ) → i ≤ j → 0 < j → GapOf (sub closest p) D M R n → Kept n w x i j
    far_between l i j ij jp gap =
        let d = dot_term f.scale way side in
        let t : FractionOf (fraction a b p) = any_fraction (dot (sub p a) (sub b a)) squared_length l.size d.is l.value l.some in
        let v = reaching t.t t.is t.at_most in
        edge_short v (gap (reached v) (reached_at v)) i j ij jp H
        t.at_most f.east.edge.small f.north.edge.small tiny
