-- The computed vector from a point p to the foot a + t (b - a), along one axis, against the exact one. Assumes nothing.
use mathlib.Core.Path.{◌≡◌, sym, ap, subst}
use mathlib.Core.Logic.{◌⊎◌, inl, inr}
use Prim.Native.Nat.{ℕ, ◌+◌, ◌*◌, ◌/◌, ◌^◌, ◌≤◌, ◌<◌}
use native.Mathlib.Nat.{le_trans, lt_of_le_of_lt, le_of_eq, mul-le-mul, mul-le-mul_left, mul-le-mul_right, mul-lt-mul_of_pos_left, mul-add, add-zero}
use native.Mathlib.Omega.{arith}
use lib.Pow.{pow_pos}
use lib.Ieee.{Float}
use Rattle.math.specs.Number.{add, sub, mul}
use Rattle.math.proofs.Signed.{Signed, ◌⊖◌, ◌⊕◌, ◌⊟◌, ◌⊗◌, ◌·◌, negated, total, size, past, Close, close_trans, close_scale}
use Rattle.math.proofs.Signed.{Small, small_close, small_more, small_add, small_sub, small_scale, small_cancel}
use Rattle.math.proofs.Operations.{unit, limit, Is, one_part, total_small, Result, mul_near}
use Rattle.margins.proofs.Scale.{Range, sixty, coarse_enough, below_limit}
use Rattle.margins.proofs.DotProduct.{Part, difference, summed}

-- z lies within e units of A / u, and c e ≤ R
pub record Along (z : Float) (A : Signed) (u c R : ℕ) : Type 0 where
  pub units : Signed
  pub e : ℕ
  pub is : Is z units
  pub close : Close (u · units) A (u * e)
  pub bound : c * e ≤ R

-- the error of the rounded product, over u
moved_error : (u R : ℕ) → (u * (3 * R) + 2 ^ 52 * u) / 2 ^ 53 ≤ u * (R / 2 ^ 50 + 1)
moved_error u R = at (R / 2 ^ 50) (mul-le-mul_left u (floor R))
  where
    floor : (R : ℕ) → R ≤ 2 ^ 50 * (R / 2 ^ 50) + 2 ^ 50
    floor R = omega arith

    last : (x y : ℕ) → x ≤ 2 ^ 50 * y + 2 ^ 50 * u → (3 * x + 2 ^ 52 * u) / 2 ^ 53 ≤ y + u
    last x y h = omega arith

    three : 3 * (u * R) ≡ u * (3 * R)
    three = omega arith

    at : (q : ℕ) → u * R ≤ u * (2 ^ 50 * q + 2 ^ 50) → (u * (3 * R) + 2 ^ 52 * u) / 2 ^ 53 ≤ u * (q + 1)
    at q h = subst (λ (z : ℕ). (z + 2 ^ 52 * u) / 2 ^ 53 ≤ u * (q + 1)) three (le_trans (last (u * R) (u * q) (le_trans h (le_of_eq out))) (le_of_eq next))
      where
        out : u * (2 ^ 50 * q + 2 ^ 50) ≡ 2 ^ 50 * (u * q) + 2 ^ 50 * u
        out = omega arith

        next : u * q + u ≡ u * (q + 1)
        next = omega arith

-- t times a rounded side x of the edge, for a t of T units from 0 to 1; X is the exact side
moved : {t x : Float} {X : Signed} (T R : ℕ) → Is t (T ⊖ 0) → T ≤ unit → Part x X (2 ^ 51) R (2 * R) → Range R
    → Along (mul t x) (T · X) unit (2 ^ 49) R
moved {t} {x} {X} T R v l a range = record {
  units = r.units;
  e = R / 2 ^ 50 + 1 + a.e;
  is = r.is;
  close = errors unit (R / 2 ^ 50 + 1) a.e all (moved_error unit R) (mul-le-mul_right a.e l);
  bound = omega (arith, a.bound, sixty range);
}
  where
    size : total a.units ≤ 3 * R
    size = total_small a.is (small_more (small_close a.close a.small) (omega (arith, a.bound)))

    big : total (T ⊖ 0) * total a.units ≤ unit * (3 * R)
    big = mul-le-mul (le_trans (le_of_eq (add-zero T)) l) size

    r : Result (mul t x) ((T ⊖ 0) ⊗ a.units) unit (unit * (3 * R))
    r = mul_near v a.is (lt_of_le_of_lt big (mul-lt-mul_of_pos_left (below_limit (3 * R) range (omega arith)) (pow_pos 1074))) big

    plain : (s : Signed) {b : Signed} {e : ℕ} → Close (T · s) b e → Close ((T ⊖ 0) ⊗ s) b e
    plain s h = record { above = omega (arith, h.above); below = omega (arith, h.below) }

    all : Close (unit · r.units) (T · X) ((unit * (3 * R) + 2 ^ 52 * unit) / 2 ^ 53 + T * a.e)
    all = close_trans r.close (plain a.units (close_scale T a.close))

    errors : (u d e : ℕ) {r b : Signed} {x y : ℕ} → Close r b (x + y) → x ≤ u * d → y ≤ u * e → Close r b (u * (d + e))
    errors u d e h f g = record { above = omega (arith, h.above); below = omega (arith, h.below) }

-- the start a of the edge and the point p, along one axis
pub record Placed (a p : Signed) (R : ℕ) : Type 0 where
  pub start : Small a R
  pub point : Small p (3 * R)

module _ {a p : Float} {A P : Signed} {R : ℕ} (range : Range R) (ia : Is a A) (ip : Is p P) (at : Placed A P R) where
  -- a rounding to 52 digits
  wide : (k : ℕ) → 2 ≤ k → 2 ^ 52 ≤ k * R
  wide k h = le_trans (coarse_enough range) (mul-le-mul_right R h)

  start_size : total A ≤ R
  start_size = total_small ia at.start

  point_size : total P ≤ 3 * R
  point_size = total_small ip at.point

  -- ---- from p to a + t x
  module _ {t x : Float} {X : Signed} (T : ℕ) (v : Is t (T ⊖ 0)) (l : T ≤ unit) (part : Part x X (2 ^ 51) R (2 * R)) where
    product : Along (mul t x) (T · X) unit (2 ^ 49) R
    product = moved T R v l part range

    product_small : Small product.units (3 * R)
    product_small =
        small_more
        (small_cancel unit (product.e + 2 * R) (pow_pos 1074)
        (small_more (small_close product.close (small_scale T unit (2 * R) l part.small)) (le_of_eq (sym (mul-add unit product.e (2 * R))))))
        (omega (arith, product.bound))

    -- the foot
    end : Part (add a (mul t x)) (A ⊕ product.units) (2 ^ 52) (4 * R) (4 * R)
    end = summed ia product.is fine (small_more (small_add at.start product_small) (omega arith)) (wide 4 (omega arith))
      where
        fine : total A + total product.units < limit
        fine = below_limit (total A + total product.units) range (omega (arith, start_size, total_small product.is product_small))

    end_small : Small end.units (5 * R)
    end_small = small_more (small_close end.close end.small) (omega (arith, end.bound))

    vector : Part (sub (add a (mul t x)) p) (end.units ⊟ P) (2 ^ 52) (8 * R) (8 * R)
    vector = difference end.is ip fine (small_more (small_sub end_small at.point) (omega arith)) (wide 8 (omega arith))
      where
        fine : total end.units + total P < limit
        fine = below_limit (total end.units + total P) range (omega (arith, total_small end.is end_small, point_size))

    pub axis : Along (sub (add a (mul t x)) p) (negated (past (P ⊟ A) X T unit)) unit (2 ^ 47) R
    axis = record {
      units = vector.units;
      e = vector.e + end.e + product.e;
      is = vector.is;
      close = joined unit vector.units end.units product.units (T · X) vector.e end.e product.e
          (close_scale unit vector.close) (close_scale unit end.close) product.close;
      bound = omega (arith, vector.bound, end.bound, product.bound);
    }
      where
        joined : (u : ℕ) (w q z tx : Signed) (e f g : ℕ) → Close (u · w) (u · (q ⊟ P)) (u * e) → Close (u · q) (u · (A ⊕ z)) (u * f)
            → Close (u · z) tx (u * g) → Close (u · w) (negated (u · (P ⊟ A) ⊟ tx)) (u * (e + f + g))
        joined u w q z tx e f g h k m = record {
          above = omega (arith, h.above, k.above, m.above);
          below = omega (arith, h.below, k.below, m.below);
        }

  -- ---- the same where the foot is the start itself, whatever the edge's side X
  start_vector : Part (sub a p) (A ⊟ P) (2 ^ 52) (4 * R) (4 * R)
  start_vector = difference ia ip fine (small_more (small_sub at.start at.point) (omega arith)) (wide 4 (omega arith))
    where
      fine : total A + total P < limit
      fine = below_limit (total A + total P) range (omega (arith, start_size, point_size))

  pub axis_start : (X : Signed) → Along (sub a p) (negated (past (P ⊟ A) X 0 unit)) unit (2 ^ 47) R
  axis_start X = record {
    units = start_vector.units;
    e = start_vector.e;
    is = start_vector.is;
    close = swapped unit start_vector.units start_vector.e (close_scale unit start_vector.close);
    bound = omega (arith, start_vector.bound);
  }
    where
      swapped : (u : ℕ) (w : Signed) (e : ℕ) → Close (u · w) (u · (A ⊟ P)) (u * e) → Close (u · w) (negated (past (P ⊟ A) X 0 u)) (u * e)
      swapped u w e h = record { above = omega (arith, h.above); below = omega (arith, h.below) }

-- the computed part of the vector is as long as the exact one but for e
pub part_length : {z : Float} {A : Signed} {u c R : ℕ} (a : Along z (negated A) u c R) → u * total a.units ≤ size A + u * a.e
part_length {z} {A} {u} a = go (one_part a.is)
  where
    go : (a.units.minus ≡ 0) ⊎ (a.units.plus ≡ 0) → u * total a.units ≤ size A + u * a.e
    go (inl z) = let k : u * a.units.minus ≡ u * 0 = ap (λ (x : ℕ). u * x) z in omega (arith, a.close.above)
    go (inr z) = let k : u * a.units.plus ≡ u * 0 = ap (λ (x : ℕ). u * x) z in omega (arith, a.close.below)
