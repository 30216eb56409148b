-- From the two dot products of an edge that is not tiny to its foot: the computed squared length is above 0, and the rounded quotient, held
-- between 0 and 1, nearly satisfies the equation of the projection. Assumes nothing.
use mathlib.Core.Path.{◌≡◌, subst}
use mathlib.Core.Bool.{Bool, true, false}
use Prim.Native.Nat.{ℕ, zero, suc, ◌+◌, ◌*◌, ◌/◌, ◌^◌, ◌≤◌, ◌<◌}
use native.Mathlib.Nat.{le_trans, lt_of_le_of_lt, lt_of_lt_of_le, le_of_lt}
use native.Mathlib.Nat.{mul-le-mul_left, mul-le-mul_right, lt_of_mul-lt-mul_left, mul-lt-mul_of_pos_right, mul-pos}
use native.Mathlib.Omega.{arith}
use lib.Dec.{leb→le}
use lib.Pow.{pow_pos}
use lib.Ieee.{Float}
use lib.Ieee.Exact.{HasValue}
use Rattle.math.specs.Number.{clamp, div}
use Rattle.math.proofs.Signed.{Signed, ◌⊖◌, ◌·◌, total, Close, close_trans, Small, small_close, small_more}
use Rattle.math.proofs.Operations.{unit, limit, signed, Is, total_scaled, Result, div_near}
use Rattle.margins.proofs.DotProduct.{Term}
use Rattle.margins.proofs.Foot.{Foot}
use Rattle.margins.proofs.Clamp.{Fraction, clamp_fraction}
use Rattle.margins.proofs.Projection.{foot, foot_bound}

-- ---- the divisor

-- a number above 0
pub record Length (z : Float) : Type 0 where
  pub size : ℕ
  pub value : HasValue z false size (2 ^ 1074)
  pub some : 0 < size

-- the computed square of the length of an edge whose larger side is H, l being the exact one
pub record Divisor (z : Float) (l H B : ℕ) : Type 0 where
  pub length : Length z
  pub e : ℕ
  pub half : H * H ≤ 2 * (unit * length.size)
  pub close : Close ((unit * length.size) ⊖ 0) (l ⊖ 0) e
  pub bound : 2 ^ 46 * e ≤ B

-- at least half of H²
long_enough : (u l e R H : ℕ) (k : Signed) → Close (u · k) (l ⊖ 0) e → 2 ^ 46 * e ≤ R * H → R < 2 ^ 45 * H → H * H ≤ l
    → H * H + 2 * (u * k.minus) ≤ 2 * (u * k.plus)
long_enough u l e R H k c b r h = last (u * k.plus) (u * k.minus) (H * H) (half (H * H) (le_trans b (scaled (mul-le-mul_right H (le_of_lt r))))) h c.below
  where
    scaled : R * H ≤ 2 ^ 45 * H * H → R * H ≤ 2 ^ 45 * (H * H)
    scaled h = omega arith

    half : (y : ℕ) → 2 ^ 46 * e ≤ 2 ^ 45 * y → 2 * e ≤ y
    half y h = omega arith

    last : (a b y : ℕ) → 2 * e ≤ y → y ≤ l → b + l ≤ a + 0 + e → y + 2 * b ≤ 2 * a
    last a b y p k q = omega arith

-- the computed square of the length of an edge that is not tiny
pub divisor : {z : Float} {l R H : ℕ} → Term z (l ⊖ 0) unit (2 ^ 46) (R * H) → H * H ≤ l → 0 < H → R < 2 ^ 45 * H → Divisor z l H (R * H)
divisor {z} {l} {R} {H} k hl hp r = go k.is.sign k.is.size k.is.value k.is.same
  where
    large : H * H + 2 * (unit * k.units.minus) ≤ 2 * (unit * k.units.plus)
    large = long_enough unit l k.e R H k.units k.close k.bound r hl

    go : (b : Bool) (n : ℕ) → HasValue z b n (2 ^ 1074) → k.units ≡ signed b n → Divisor z l H (R * H)
    go true n v e = absurd (clash (H * H) unit n (mul-pos hp hp) (subst (λ (s : Signed). H * H + 2 * (unit * s.minus) ≤ 2 * (unit * s.plus)) e large))
      where
        clash : (a u n : ℕ) → 0 < a → a + 2 * (u * n) ≤ 2 * (u * 0) → ⊥
        clash a u n p h = omega arith
    go false n v e =
        let half : H * H ≤ 2 * (unit * n) = drop (H * H) unit n (subst (λ (s : Signed). H * H + 2 * (unit * s.minus) ≤ 2 * (unit * s.plus)) e large) in
        record {
          length = record { size = n; value = v; some = some n unit (H * H) (mul-pos hp hp) half };
          e = k.e;
          half = half;
          close = plain unit n k.e (subst (λ (s : Signed). Close (unit · s) (l ⊖ 0) k.e) e k.close);
          bound = k.bound;
        }
      where
        drop : (a u n : ℕ) → a + 2 * (u * 0) ≤ 2 * (u * n) → a ≤ 2 * (u * n)
        drop a u n h = omega arith

        some : (n u y : ℕ) → 0 < y → y ≤ 2 * (u * n) → 0 < n
        some zero u y p h = absurd (no u y p h)
          where
            no : (u y : ℕ) → 0 < y → y ≤ 2 * (u * 0) → ⊥
            no u y p h = omega arith
        some (suc n) u y p h = omega arith

        plain : (u n e : ℕ) → Close (u · (n ⊖ 0)) (l ⊖ 0) e → Close ((u * n) ⊖ 0) (l ⊖ 0) e
        plain u n e c = record { above = omega (arith, c.above); below = omega (arith, c.below) }

-- 5 R H is below Q times W, where 2 u Q ≥ H², R < 2 ^ 45 H and 10 2 ^ 45 u ≤ W: the quotient does not overflow
below_divisor : (R H Q u W : ℕ) → 0 < u → 0 < H → H * H ≤ 2 * (u * Q) → R < 2 ^ 45 * H → 10 * 2 ^ 45 * u ≤ W → 5 * (R * H) < Q * W
below_divisor R H Q u W U hp h r w =
    lt_of_mul-lt-mul_left (2 * u)
    (lt_of_lt_of_le (first (mul-lt-mul_of_pos_right (strict (mul-lt-mul_of_pos_right r U)) hp))
    (le_trans (second (mul-le-mul_left (10 * 2 ^ 45 * u) h)) (third (mul-le-mul_left (2 * (u * Q)) w))))
  where
    strict : R * u < 2 ^ 45 * H * u → u * R < u * (2 ^ 45 * H)
    strict h = omega arith

    first : u * R * H < u * (2 ^ 45 * H) * H → 2 * u * (5 * (R * H)) < 10 * (u * (2 ^ 45 * H) * H)
    first h = omega arith

    second : 10 * 2 ^ 45 * u * (H * H) ≤ 10 * 2 ^ 45 * u * (2 * (u * Q)) → 10 * (u * (2 ^ 45 * H) * H) ≤ 2 * (u * Q) * (10 * 2 ^ 45 * u)
    second h = omega arith

    third : 2 * (u * Q) * (10 * 2 ^ 45 * u) ≤ 2 * (u * Q) * W → 2 * (u * Q) * (10 * 2 ^ 45 * u) ≤ 2 * u * (Q * W)
    third h = omega arith

-- ---- the quotient

-- z is a foot's fraction, t / 2 ^ 1074, with an error of at most 2 ^ 1074 B / 2 ^ 44
pub record FootOf (z : Float) (l : ℕ) (d : Signed) (B : ℕ) : Type 0 where
  pub t : ℕ
  pub r : ℕ
  pub is : Is z (t ⊖ 0)
  pub at_most : t ≤ unit
  pub foot : Foot t unit l d r
  pub bound : 2 ^ 44 * r ≤ unit * B

-- the error of the rounded quotient
quotient_error : (B Q u e l : ℕ) → 2 ^ 52 ≤ u → Close ((u * Q) ⊖ 0) (l ⊖ 0) e → l ≤ 4 * B → 2 ^ 46 * e ≤ B → 2 ^ 49 * ((5 * B + 2 ^ 52 * Q) / 2 ^ 53) ≤ B
quotient_error B Q u e l t c h b = last (u * Q) (2 ^ 52 * Q) (mul-le-mul_right Q t) c.above
  where
    last : (x y : ℕ) → y ≤ x → x + 0 ≤ 0 + l + e → 2 ^ 49 * ((5 * B + y) / 2 ^ 53) ≤ B
    last x y = rest x y l e B h b
      where
        rest : (x y l e B : ℕ) → l ≤ 4 * B → 2 ^ 46 * e ≤ B → y ≤ x → x + 0 ≤ 0 + l + e → 2 ^ 49 * ((5 * B + y) / 2 ^ 53) ≤ B
        rest x y l e B h b a c = omega arith

-- the computed fraction of the foot: y is the computed dot product, d the exact one, and z the computed square of the length
pub quotient : {y z : Float} {l R H : ℕ} {d : Signed} → Term y d unit (2 ^ 46) (R * H) → Small d (4 * (R * H)) → Divisor z l H (R * H)
    → l ≤ 4 * (R * H) → 0 < H → R < 2 ^ 45 * H → FootOf (clamp (div y z)) l d (R * H)
quotient {y} {z} {l} {R} {H} {d} k s v lb hp r = record {
  t = f.t;
  r = unit * (v.e + ((5 * (R * H) + 2 ^ 52 * Q) / 2 ^ 53 + k.e));
  is = f.is;
  at_most = f.at_most;
  foot = foot q.units d Q l unit ((5 * (R * H) + 2 ^ 52 * Q) / 2 ^ 53 + k.e) v.e (close_trans q.close k.close) v.close f.t f.held;
  bound = foot_bound unit (R * H) v.e ((5 * (R * H) + 2 ^ 52 * Q) / 2 ^ 53) k.e v.bound
      (quotient_error (R * H) Q unit v.e l (leb→le (2 ^ 52) unit tt) v.close lb v.bound) k.bound;
}
  where
    Q : ℕ
    Q = v.length.size

    size : unit * total k.units ≤ 5 * (R * H)
    size = total_scaled unit (5 * (R * H)) k.is (small_more (small_close k.close s) (omega (arith, k.bound)))

    fine : 5 * (R * H) < v.length.size * limit
    fine = below_divisor R H v.length.size unit limit (pow_pos 1074) hp v.half r (leb→le (10 * 2 ^ 45 * unit) limit tt)

    q : Result (div y z) (unit · k.units) v.length.size (5 * (R * H))
    q = div_near z k.is v.length.value v.length.some (lt_of_le_of_lt size fine) size

    f : Fraction (clamp (div y z)) q.units
    f = clamp_fraction q.is
