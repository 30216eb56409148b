-- The rounded difference of two points, and the rounded dot product of two such vectors, against the exact ones. Assumes nothing.
use mathlib.Core.Path.{◌≡◌}
use Prim.Native.Nat.{ℕ, ◌+◌, ◌*◌, ◌/◌, ◌^◌, ◌≤◌, ◌<◌}
use native.Mathlib.Nat.{le_trans, lt_of_le_of_lt, lt_of_mul-lt-mul_left, le_of_eq, mul-le-mul, mul-le-mul_left, mul-le-mul_right, mul_comm}
use native.Mathlib.Omega.{arith}
use lib.Ieee.{Float}
use Rattle.math.specs.Number
use Rattle.math.specs.Number.{add, mul}
use Rattle.plane.specs.declared.PlanarPoint.{PlanarPoint}
use Rattle.plane.specs.Plane.{sub, dot}
use Rattle.math.proofs.Signed.{Signed, ◌⊕◌, ◌⊟◌, ◌⊗◌, ◌·◌, total, Vector, from_to, inner}
use Rattle.math.proofs.Signed.{Close, close_trans, close_add, close_product, close_scale, close_factor, close_one}
use Rattle.math.proofs.Signed.{Small, small_close, small_more, small_product}
use Rattle.math.proofs.Operations.{unit, limit, Is, total_small, total_scaled, Result, add_near, sub_near, mul_near}
use Rattle.margins.proofs.Scale.{Scale, product_fine}

-- ---- a rounded sum or difference

-- z lies within e units of the exact P, which is at most s in size; and c e ≤ B
pub record Part (z : Float) (P : Signed) (c B s : ℕ) : Type 0 where
  pub units : Signed
  pub e : ℕ
  pub is : Is z units
  pub close : Close units P e
  pub bound : c * e ≤ B
  pub small : Small P s

part_of : {z : Float} {P : Signed} {s : ℕ} → Small P s → 2 ^ 52 ≤ s → Result z P 1 s → Part z P (2 ^ 52) s s
part_of {z} {P} {s} h l r = record {
  units = r.units;
  e = (s + 2 ^ 52 * 1) / 2 ^ 53;
  is = r.is;
  close = close_one r.close;
  bound = omega arith;
  small = h;
}

-- a rounded difference
pub difference : {x y : Float} {p q : Signed} {s : ℕ} → Is x p → Is y q → total p + total q < limit → Small (p ⊟ q) s → 2 ^ 52 ≤ s
    → Part (Number.sub x y) (p ⊟ q) (2 ^ 52) s s
difference i j fine h l = part_of h l (sub_near i j fine h)

-- a rounded sum
pub summed : {x y : Float} {p q : Signed} {s : ℕ} → Is x p → Is y q → total p + total q < limit → Small (p ⊕ q) s → 2 ^ 52 ≤ s
    → Part (add x y) (p ⊕ q) (2 ^ 52) s s
summed i j fine h l = part_of h l (add_near i j fine h)

-- a coarser bound
coarse : {z : Float} {P : Signed} {s : ℕ} (R : ℕ) → s ≤ 2 * R → Part z P (2 ^ 52) s s → Part z P (2 ^ 51) R (2 * R)
coarse {z} {P} {s} R h a = record {
  units = a.units;
  e = a.e;
  is = a.is;
  close = a.close;
  bound = omega (arith, a.bound);
  small = small_more a.small h;
}

-- ---- points and vectors

-- p is the vector v in units
pub record At (p : PlanarPoint) (v : Vector) : Type 0 where
  pub east : Is p.east v.east
  pub north : Is p.north v.north

-- both coordinates of a computed vector
pub record Parts (p : PlanarPoint) (v : Vector) (c B s : ℕ) : Type 0 where
  pub east : Part p.east v.east c B s
  pub north : Part p.north v.north c B s

-- what the vector from a to b needs to be computed well: it is at most s in size, and no coordinate is near overflow
pub record Apart (a b : Signed) (s : ℕ) : Type 0 where
  pub small : Small (b ⊟ a) s
  pub fine : total b + total a < limit

-- the computed vector from p to q
pub differences : {p q : PlanarPoint} {a b : Vector} {s : ℕ} → At p a → At q b → Apart a.east b.east s → Apart a.north b.north s → 2 ^ 52 ≤ s
    → Parts (sub q p) (from_to a b) (2 ^ 52) s s
unfolding sub
differences i j e n l = record {
  east = difference j.east i.east e.fine e.small l;
  north = difference j.north i.north n.fine n.small l;
}

-- with a coarser bound
pub coarser : {p : PlanarPoint} {v : Vector} {s : ℕ} (R : ℕ) → s ≤ 2 * R → Parts p v (2 ^ 52) s s → Parts p v (2 ^ 51) R (2 * R)
coarser R h a = record { east = coarse R h a.east; north = coarse R h a.north }

-- ---- the dot product of a vector of parts up to 2 R and one of parts up to H

-- z is `units` units; d times that lies within e of a, and c e ≤ B
pub record Term (z : Float) (a : Signed) (d c B : ℕ) : Type 0 where
  pub units : Signed
  pub e : ℕ
  pub is : Is z units
  pub close : Close (d · units) a e
  pub bound : c * e ≤ B

-- the numbers of one product's error
product_error : (R H t e f : ℕ) → t ≤ R * H → 2 ^ 51 * e ≤ R → 2 ^ 52 * f ≤ H
    → 2 ^ 48 * ((6 * (R * H) + t) / 2 ^ 53 + (e * (2 * H) + f * (2 * R))) ≤ R * H
product_error R H t e f l a b = last (R * H) (e * H) (f * R) l (first (mul-le-mul_right H a)) (second (mul-le-mul_right R b)) (regroup e H) (regroup f R)
  where
    first : 2 ^ 51 * e * H ≤ R * H → 2 ^ 51 * (e * H) ≤ R * H
    first h = omega arith

    second : 2 ^ 52 * f * R ≤ H * R → 2 ^ 52 * (f * R) ≤ R * H
    second h = omega arith

    regroup : (e H : ℕ) → e * (2 * H) ≡ 2 * (e * H)
    regroup e H = omega arith

    last : (B x y : ℕ) {v w : ℕ} → t ≤ B → 2 ^ 51 * x ≤ B → 2 ^ 52 * y ≤ B → v ≡ 2 * x → w ≡ 2 * y → 2 ^ 48 * ((6 * B + t) / 2 ^ 53 + (v + w)) ≤ B
    last B x y l a b p q = omega arith

-- the numbers of the sum's error
sum_error : (u k B e f : ℕ) → u * k ≤ 6 * B → 2 ^ 52 * u ≤ B → 2 ^ 48 * e ≤ B → 2 ^ 48 * f ≤ B → 2 ^ 46 * (u * ((k + 2 ^ 52 * 1) / 2 ^ 53) + (e + f)) ≤ B
sum_error u k B e f h l a b = last ((k + 2 ^ 52 * 1) / 2 ^ 53) (mul-le-mul_left u (floor (k + 2 ^ 52 * 1)))
  where
    floor : (x : ℕ) → 2 ^ 53 * (x / 2 ^ 53) ≤ x
    floor x = omega arith

    last : (q : ℕ) → u * (2 ^ 53 * q) ≤ u * (k + 2 ^ 52 * 1) → 2 ^ 46 * (u * q + (e + f)) ≤ B
    last q x = omega arith

module _ {R H : ℕ} (scale : Scale R H) where
  tiny : 2 ^ 52 * unit ≤ R * H
  tiny = le_trans (mul-le-mul scale.wide scale.range.above_one) (le_of_eq (mul_comm H R))

  mul_term : {w x : Float} {W X : Signed} → Part w W (2 ^ 51) R (2 * R) → Part x X (2 ^ 52) H H → Term (mul w x) (W ⊗ X) unit (2 ^ 48) (R * H)
  mul_term {w} {x} {W} {X} a b = record {
    units = r.units;
    e = (6 * (R * H) + 2 ^ 52 * unit) / 2 ^ 53 + (a.e * (2 * H) + b.e * (2 * R));
    is = r.is;
    close = close_trans r.close (close_product a.close b.close second a.small);
    bound = product_error R H (2 ^ 52 * unit) a.e b.e tiny a.bound b.bound;
  }
    where
      six : (R H : ℕ) → 3 * R * (2 * H) ≤ 6 * (R * H)
      six R H = omega arith

      first : Small a.units (3 * R)
      first = small_more (small_close a.close a.small) (omega (arith, a.bound))

      second : Small b.units (2 * H)
      second = small_more (small_close b.close b.small) (omega (arith, b.bound))

      size : total a.units * total b.units ≤ 6 * (R * H)
      size = le_trans (mul-le-mul (total_small a.is first) (total_small b.is second)) (six R H)

      r : Result (mul w x) (a.units ⊗ b.units) unit (6 * (R * H))
      r = mul_near a.is b.is (lt_of_le_of_lt size (product_fine scale)) size

  -- one term's size, times the unit
  term_size : {z : Float} {a : Signed} → Small a (2 * (R * H)) → (t : Term z a unit (2 ^ 48) (R * H)) → unit * total t.units ≤ 3 * (R * H)
  term_size s t = total_scaled unit (3 * (R * H)) t.is (small_more (small_close t.close s) (omega (arith, t.bound)))

  add_term : {y z : Float} {a b : Signed} → Small a (2 * (R * H)) → Small b (2 * (R * H)) → Term y a unit (2 ^ 48) (R * H) → Term z b unit (2 ^ 48) (R * H)
      → Term (add y z) (a ⊕ b) unit (2 ^ 46) (R * H)
  add_term {y} {z} {a} {b} s s' t t' =
      let k = total t.units + total t'.units in
      let big : unit * k ≤ 6 * (R * H) = both unit (total t.units) (total t'.units) (R * H) (term_size s t) (term_size s' t') in
      let r = add_near t.is t'.is (lt_of_mul-lt-mul_left unit (lt_of_le_of_lt big (product_fine scale))) (within t.units t'.units) in
      record {
        units = r.units;
        e = unit * ((k + 2 ^ 52 * 1) / 2 ^ 53) + (t.e + t'.e);
        is = r.is;
        close = close_trans (close_scale unit (close_one r.close)) (close_factor unit t.units t'.units (close_add t.close t'.close));
        bound = sum_error unit k (R * H) t.e t'.e big tiny t.bound t'.bound;
      }
    where
      both : (u p q B : ℕ) → u * p ≤ 3 * B → u * q ≤ 3 * B → u * (p + q) ≤ 6 * B
      both u p q B h k = omega arith

      within : (p q : Signed) → Small (p ⊕ q) (total p + total q)
      within p q = record { above = omega arith; below = omega arith }

  pub dot_term : {w x : PlanarPoint} {W X : Vector} → Parts w W (2 ^ 51) R (2 * R) → Parts x X (2 ^ 52) H H → Term (dot w x) (inner W X) unit (2 ^ 46) (R * H)
  unfolding dot
  dot_term a b =
      add_term (small a.east b.east) (small a.north b.north) (mul_term a.east b.east) (mul_term a.north b.north)
    where
      small : {w x : Float} {W X : Signed} → Part w W (2 ^ 51) R (2 * R) → Part x X (2 ^ 52) H H → Small (W ⊗ X) (2 * (R * H))
      small a b = small_more (small_product a.small b.small) (omega arith)
