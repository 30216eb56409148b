-- R-10 for one edge, of `closest_on_segment` and `length_of` themselves: where the computed gap from p to the edge from a to b is not
-- below the distance less the tolerance, as computed, p is `Far` from the edge. Assumes nothing.
use mathlib.Core.Path.{◌≡◌, refl, subst}
use mathlib.Core.Logic.{◌⊎◌, inl, inr}
use mathlib.Core.Bool.{true, false}
use Prim.Native.Nat.{ℕ, ◌+◌, ◌-◌, ◌*◌, ◌^◌, ◌≤◌, ◌<◌, zero-le}
use native.Mathlib.Nat.{le_trans, le_of_eq, zero-mul}
use native.Mathlib.Omega.{arith}
use lib.Dec.{T, leb→le}
use lib.Ieee.{Float, binary64, fits, lt, le}
use Rattle.math.specs.Number.{zero_float, finite}
use Rattle.plane.specs.declared.PlanarPoint.{PlanarPoint}
use Rattle.plane.specs.Plane.{sub, dot}
use Rattle.plane.specs.Points.{length_of}
use Rattle.segment.specs.Segments.{foot, closest_on_segment}
use Rattle.hypotenuse.proofs.Order.{le_or_lt}
use Rattle.margins.specs.Far.{magnitude, axis_apart, squared_apart, margin_of, Far}
use Rattle.math.proofs.Signed.{Signed}
use Rattle.math.proofs.Operations.{unit, limit, Is}
use Rattle.margins.proofs.DotProduct.{At}
use Rattle.margins.proofs.Values.{units_of, of_double}
use Rattle.margins.proofs.Gaps.{Asked}
use Rattle.margins.proofs.OneEdge.{Within, edge_kept}

-- a vertex whose numbers are finite doubles
pub record Point (p : PlanarPoint) : Type 0 where
  pub east_fits : T (fits binary64 p.east)
  pub east_finite : finite p.east ≡ true
  pub north_fits : T (fits binary64 p.north)
  pub north_finite : finite p.north ≡ true

-- no coordinate is larger than M units
pub record Reach (p : PlanarPoint) (M : ℕ) : Type 0 where
  pub east : magnitude p.east ≤ M
  pub north : magnitude p.north ≤ M

-- what is known of the number z that the gap reaches: the distance less the tolerance, as computed
pub record Least (z : Float) (D M : ℕ) : Type 0 where
  pub units : Signed
  pub is : Is z units
  pub tolerance : 10 ^ 12 * D ≤ 10 ^ 12 * units.plus + 1001 * (unit + D + M)
  pub small : units.plus ≤ limit

point_at : (p : PlanarPoint) → Point p → At p (units_of p)
point_at p i = record { east = of_double p.east i.east_fits i.east_finite; north = of_double p.north i.north_fits i.north_finite }

within : {p : PlanarPoint} {M : ℕ} → Reach p M → Within (units_of p) M
within r = record { east = r.east; north = r.north }

module _ (p a b : PlanarPoint) (z : Float) (D M : ℕ) (ip : Point p) (ia : Point a) (ib : Point b) (ra : Reach a M) (rb : Reach b M)
    (least : Least z D M) (fine : 2 ^ 1074 + D + M ≤ 2 ^ 1115) where
  asked : (n : ℕ) → n + 2 * 10 ^ 6 * (unit + D + M) + M ≡ 10 ^ 15 * D → Asked z D M (unit + D + M) n
  asked n e = record {
    units = least.units;
    is = least.is;
    margin = record { R_is = refl; n_is = e; tolerance = least.tolerance; large = leb→le (2 ^ 60) unit tt };
    small = least.small;
  }

  pub far_edge : lt (length_of (sub (closest_on_segment p a b) p)) z ≡ false → Far D M p a b
  unfolding margin_of squared_apart axis_apart closest_on_segment foot
  far_edge l i j ij jp = go (le_or_lt (10 ^ 15 * D) (2 * 10 ^ 6 * (2 ^ 1074 + D + M) + M))
    where
      -- the margin is 0: nothing is promised
      nothing : (x y s t : ℕ) → x ≤ y → (x - y) * (x - y) * s ≤ t
      nothing x y s t h = subst (λ (k : ℕ). k * k * s ≤ t) (none x y h) (le_trans (le_of_eq (zero-mul s)) zero-le)
        where
          none : (x y : ℕ) → x ≤ y → 0 ≡ x - y
          none x y h = omega arith

      back : (x y w : ℕ) → y + w < x → x - (y + w) + y + w ≡ x
      back x y w h = omega arith

      go : (10 ^ 15 * D ≤ 2 * 10 ^ 6 * (2 ^ 1074 + D + M) + M) ⊎ (2 * 10 ^ 6 * (2 ^ 1074 + D + M) + M < 10 ^ 15 * D)
          → margin_of D M * margin_of D M * (j * j) ≤ 10 ^ 30 * squared_apart p a b i j
      go (inl h) = nothing (10 ^ 15 * D) (2 * 10 ^ 6 * (2 ^ 1074 + D + M) + M) (j * j) (10 ^ 30 * squared_apart p a b i j) h
      go (inr h) =
          edge_kept (point_at a ia) (point_at b ib) (point_at p ip) (within ra) (within rb)
          (asked (margin_of D M) (back (10 ^ 15 * D) (2 * 10 ^ 6 * (2 ^ 1074 + D + M)) M h)) fine i j ij jp (le (dot (sub b a) (sub b a)) zero_float) refl l
