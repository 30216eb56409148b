-- The gap as `hypot` gives it: `HypotIsNearest` says of it what `Gap` asks. Where the root overflows, the middle past the largest double
-- serves as the gap, so the vector's length needs no bound. Assumes nothing.
use mathlib.Core.Path.{◌≡◌, refl, sym, ◌∙◌, subst}
use mathlib.Core.Logic.{inl, inr}
use mathlib.Core.Bool.{false}
use Prim.Native.Nat.{ℕ, zero, suc, ◌+◌, ◌-◌, ◌*◌, ◌^◌, ◌≤◌, ◌<◌, zero-le}
use native.Mathlib.Nat.{le_trans, mul-le-mul_right, le-add_right}
use native.Mathlib.Omega.{arith}
use lib.Dec.{T, leb→le}
use lib.Pow.{pow_pos}
use lib.Ieee.{Float, nan, binary64, fits, lt}
use lib.Ieee.Exact.{HasValue}
use lib.Ieee.Fits.{sub-fits}
use Rattle.plane.specs.declared.PlanarPoint.{PlanarPoint}
use Rattle.plane.specs.Plane.{sub}
use Rattle.plane.specs.Points.{length_of}
use Rattle.hypotenuse.specs.Hypot.{hypot}
use Rattle.hypotenuse.specs.Nearest.{HasUnits, Infinite, NearestRoot, edge, Rounds, past, near, IsHypot, of_finite, of_infinite, of_nan}
use Rattle.hypotenuse.proofs.Correct.{hypot_is_nearest}
use Rattle.math.proofs.Signed.{Signed, total, Vector}
use Rattle.math.proofs.Operations.{unit, limit, Is, total_is}
use Rattle.margins.proofs.DotProduct.{At}
use Rattle.margins.proofs.TooShort.{Rooted, Margin, Gap}
use Rattle.margins.proofs.ExactEdge.{squares}
use Rattle.margins.proofs.Values.{size_is, reaches}

-- ---- a rounded root

-- q * 2 ^ k is nearer to the root of s than the number before it
from_below : (s q k : ℕ) → (0 < k → 2 ^ 52 ≤ q) → (0 < q → (q * 2 ^ k + (q - 1) * 2 ^ k) * (q * 2 ^ k + (q - 1) * 2 ^ k) ≤ 4 * s) → Rooted s (q * 2 ^ k)
from_below s zero k full below = record { w = 0; twice_less = 0; near = omega arith; is = omega arith; place = omega arith }
from_below s (suc q) k full below = record {
  w = 2 ^ k;
  twice_less = suc q * 2 ^ k + q * 2 ^ k;
  near = subst (λ (x : ℕ). (suc q * 2 ^ k + x * 2 ^ k) * (suc q * 2 ^ k + x * 2 ^ k) ≤ 4 * s) (less q) (below (omega arith));
  is = two q (2 ^ k);
  place = place k full;
}
  where
    less : (q : ℕ) → suc q - 1 ≡ q
    less q = omega arith

    two : (q K : ℕ) → suc q * K + q * K + K ≡ 2 * (suc q * K)
    two q K = omega arith

    place : (k : ℕ) → (0 < k → 2 ^ 52 ≤ suc q) → 2 ^ 52 * 2 ^ k ≤ suc q * 2 ^ k + 2 ^ 52
    place zero f = omega arith
    place (suc k) f = le_trans (mul-le-mul_right (2 ^ suc k) (f (omega arith))) (le-add_right (suc q * 2 ^ suc k) (2 ^ 52))

from_nearest : (s q k : ℕ) → NearestRoot s q k → Rooted s (q * 2 ^ k)
from_nearest s q k h = from_below s q k h.full (λ p. h.below ((q - 1) * 2 ^ k) (q - 1, k, (refl, small q p h.q_le)) (less q (2 ^ k) p (pow_pos k)))
  where
    small : (q : ℕ) → 0 < q → q ≤ 2 ^ 53 → q - 1 < 2 ^ 53
    small q p l = omega arith

    less : (q u : ℕ) → 0 < q → 0 < u → (q - 1) * u < q * u
    less zero u p z = absurd (omega arith)
    less (suc q) u p z = subst (λ (x : ℕ). x * u < suc q * u) (sym (pred q)) (step q u z)
      where
        pred : (q : ℕ) → suc q - 1 ≡ q
        pred q = omega arith

        step : (q u : ℕ) → 0 < u → q * u < suc q * u
        step q u z = omega arith

-- the middle between the largest double and the next number up
top : ℕ
top = (2 ^ 54 - 1) * 2 ^ 2044

-- an overflow: twice `top` is `edge`
past_edge : (s : ℕ) → edge * edge ≤ 4 * s → Rooted s top
unfolding top
past_edge s h = record { w = 0; twice_less = edge; near = h; is = refl; place = zero-le }

below_top : limit ≤ top
unfolding top
below_top = leb→le limit ((2 ^ 54 - 1) * 2 ^ 2044) tt

-- ---- the gap

-- z is the number that the gap has to reach
pub record Asked (z : Float) (D M R n : ℕ) : Type 0 where
  pub units : Signed
  pub is : Is z units
  pub margin : Margin D M unit R n units.plus
  pub small : units.plus ≤ limit

-- the length of the computed v, as `Gap` has it, whatever v is in units
abbrev pub GapOf : PlanarPoint → ℕ → ℕ → ℕ → ℕ → Type 0
GapOf v D M R n = (s : Vector) → At v s → Gap D M unit R n (squares s)

module _ {z : Float} {D M R n : ℕ} (a : Asked z D M R n) where
  rounded : (s : ℕ) (r : Float) → Rounds s r → lt r z ≡ false → Gap D M unit R n s
  rounded s r (past h e) l =
      record { h = a.units.plus; g = top; margin = a.margin; root = past_edge s h; reaches = le_trans a.small below_top }
  rounded s r (near q k h v w) l = record {
    h = a.units.plus;
    g = q * 2 ^ k;
    margin = a.margin;
    root = from_nearest s q k w;
    reaches = reaches r z (q * 2 ^ k) a.units.plus a.units.minus v a.is l;
  }

  finite_not : {x : Float} {s : Signed} → Is x s → Infinite x → ⊥
  finite_not i h = subst (λ (y : Float). HasValue y i.sign i.size (2 ^ 1074)) h.1 i.value

  number_not : {x : Float} {s : Signed} → Is x s → x ≡ nan → ⊥
  number_not i h = subst (λ (y : Float). HasValue y i.sign i.size (2 ^ 1074)) h i.value

  from_hypot : (x y : Float) {p q : Signed} → T (fits binary64 x) → T (fits binary64 y) → lt (hypot x y) z ≡ false → Is x p → Is y q
      → Gap D M unit R n (total p * total p + total q * total q)
  from_hypot x y {p} {q} fx fy l i j = go (hypot_is_nearest.is x y fx fy)
    where
      -- both sizes are those that `HypotIsNearest` names
      same : {x : Float} {s : Signed} {a : ℕ} (i : Is x s) (h : HasUnits x a) → a ≡ total s
      same {x} {s} {a} i h = size_is x h.0 i.sign a i.size h.1 i.value ∙ sym (total_is i)

      go : IsHypot x y (hypot x y) → Gap D M unit R n (total p * total p + total q * total q)
      go (of_finite a b h k r) =
          subst (λ (c : ℕ). Gap D M unit R n (c * c + total q * total q)) (same i h)
          (subst (λ (c : ℕ). Gap D M unit R n (a * a + c * c)) (same j k) (rounded (a * a + b * b) (hypot x y) r l))
      go (of_infinite (inl h) e) = absurd (finite_not i h)
      go (of_infinite (inr h) e) = absurd (finite_not j h)
      go (of_nan (inl h) _ _ e) = absurd (number_not i h)
      go (of_nan (inr h) _ _ e) = absurd (number_not j h)

  -- the computed length of the vector from p to q
  pub gap_of : (q p : PlanarPoint) → lt (length_of (sub q p)) z ≡ false → GapOf (sub q p) D M R n
  unfolding length_of sub
  gap_of q p l s v =
      from_hypot (sub q p).east (sub q p).north (sub-fits binary64 q.east p.east) (sub-fits binary64 q.north p.north) l v.east v.north
