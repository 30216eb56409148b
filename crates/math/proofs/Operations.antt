-- What one float operation may be off by, in units of the smallest double: half a place of the result, or half a unit. A finite double is a
-- signed number of units of which one part is 0. (ring_near/proofs/Rounded.antt has rounding laws of its own, for squares and their sums, infinite
-- ones too, and to a part in 2 ^ 36: too coarse here.) Assumes nothing.
use mathlib.Core.Path.{◌≡◌, refl, sym, ap, ◌∙◌, subst}
use mathlib.Core.Logic.{◌⊎◌, inl, inr}
use mathlib.Core.Bool.{Bool, true, false, not, cond, ◌&&◌}
use Prim.Native.Nat.{ℕ, zero, suc, ◌+◌, ◌-◌, ◌*◌, ◌/◌, ◌^◌, ◌≤◌, ◌<◌}
use native.Mathlib.Nat.{le_trans, le_of_eq, le_of_lt, lt_irrefl, lt_of_le_of_lt, lt_of_lt_of_le, mul-le-mul_right}
use native.Mathlib.Nat.{add_comm, add-mul, mul_comm, mul_assoc, mul-one, mul-sub, zero-mul, mul_right_comm, mul-mul-mul_comm, le_of_mul-le-mul_right, lt_of_mul-lt-mul_right, mul-pos}
use native.Mathlib.Omega.{arith}
use lib.Dec.{T, ltb, eqb, ltb→lt, nltb→le, eqb→eq, not_T, leb→le}
use lib.Pow.{pow_pos}
use lib.Ieee.{Float, nan, inf, fin, binary64, up, down, unlike, round, sum, add, sub, mul, div, neg}
use lib.Ieee.Fits.{round_is, down_pos, up_pos}
use lib.Ieee.Exact.{HasValue, units_val}
use lib.Ieee.Bits.{cond_no}
use lib.Ieee.Order.{drop, kept}
use Rattle.hypotenuse.proofs.Poly.{poly}
use Rattle.math.proofs.Signed.{Signed, ◌⊖◌, ◌⊕◌, ◌⊟◌, ◌⊗◌, ◌·◌, negated, total, Close, close_negated, Small}
use Rattle.math.proofs.Nearby.{Near, grid_near}

-- the units of 1
abbrev pub unit : ℕ
unit = 2 ^ 1074

-- numbers below this many units stay finite when they are rounded
abbrev pub limit : ℕ
limit = 2 ^ 2090

-- ---- a double in units

-- n units with a sign
abbrev pub signed : Bool → ℕ → Signed
signed false n = n ⊖ 0
signed true n = 0 ⊖ n

-- x is s units
pub record Is (x : Float) (s : Signed) : Type 0 where
  pub sign : Bool
  pub size : ℕ
  pub value : HasValue x sign size (2 ^ 1074)
  pub same : s ≡ signed sign size

-- a number that is not below 0 is its units
pub upward : (x : Float) (a : ℕ) → HasValue x false a (2 ^ 1074) → Is x (a ⊖ 0)
upward x a v = record { sign = false; size = a; value = v; same = refl }

-- what holds of n units with a sign holds of s
pub by_sign : {x : Float} {s : Signed} (P : Signed → Type 0) → Is x s → ((b : Bool) (n : ℕ) → HasValue x b n (2 ^ 1074) → P (signed b n)) → P s
by_sign P i f = subst P (sym i.same) (f i.sign i.size i.value)

total_signed : (b : Bool) (n : ℕ) → total (signed b n) ≡ n
total_signed false n = omega arith
total_signed true n = omega arith

-- so its size is that of its value
pub total_is : {x : Float} {s : Signed} (i : Is x s) → total s ≡ i.size
total_is i = ap (λ (s : Signed). total s) i.same ∙ total_signed i.sign i.size

-- one part is 0
pub one_part : {x : Float} {s : Signed} → Is x s → (s.minus ≡ 0) ⊎ (s.plus ≡ 0)
one_part i = by_sign (λ (s : Signed). (s.minus ≡ 0) ⊎ (s.plus ≡ 0)) i (λ b n v. go b n)
  where
    go : (b : Bool) (n : ℕ) → ((signed b n).minus ≡ 0) ⊎ ((signed b n).plus ≡ 0)
    go false n = inl refl
    go true n = inr refl

-- so a small one has a small size
pub total_small : {x : Float} {s : Signed} {e : ℕ} → Is x s → Small s e → total s ≤ e
total_small {x} {s} {e} i h = go (one_part i)
  where
    go : (s.minus ≡ 0) ⊎ (s.plus ≡ 0) → total s ≤ e
    go (inl z) = omega (arith, h.above)
    go (inr z) = omega (arith, h.below)

-- the same with a factor u
pub total_scaled : {x : Float} {s : Signed} (u e : ℕ) → Is x s → Small (u · s) e → u * total s ≤ e
total_scaled {x} {s} u e i h = go (one_part i)
  where
    go : (s.minus ≡ 0) ⊎ (s.plus ≡ 0) → u * total s ≤ e
    go (inl z) = let k : u * s.minus ≡ u * 0 = ap (λ (x : ℕ). u * x) z in omega (arith, h.above)
    go (inr z) = let k : u * s.plus ≡ u * 0 = ap (λ (x : ℕ). u * x) z in omega (arith, h.below)

-- ---- a rounded fraction

-- from n / den to the same fraction a / b
near_as : (v n den a b : ℕ) → 0 < den → n * b ≡ a * den → Near v n den → Near v a b
near_as v n den a b D e h = record {
  above = le_of_mul-le-mul_right {k = den} (up (mul-le-mul_right b h.above)) D;
  below = le_of_mul-le-mul_right {k = den} (down (mul-le-mul_right b h.below)) D;
}
  where
    up : 2 ^ 53 * (v * den) * b ≤ (2 ^ 53 * n + n + 2 ^ 52 * den) * b → 2 ^ 53 * (v * b) * den ≤ (2 ^ 53 * a + a + 2 ^ 52 * b) * den
    up x = omega arith

    down : 2 ^ 53 * n * b ≤ (2 ^ 53 * (v * den) + n + 2 ^ 52 * den) * b → 2 ^ 53 * a * den ≤ (2 ^ 53 * (v * b) + a + 2 ^ 52 * b) * den
    down x = omega arith

-- no overflow: a / b below k units rounds below 2 k + 2
below_twice : (v a b k : ℕ) → 0 < b → a < b * k → Near v a b → v < 2 * k + 2
below_twice v a b k B l h = lt_of_mul-lt-mul_right b {m = v} {n = 2 * k + 2} (last (v * b) (b * k) ((2 * k + 2) * b) h.above (is b k) B l)
  where
    is : (b k : ℕ) → (2 * k + 2) * b ≡ 2 * (b * k) + 2 * b
    is b k = omega arith

    last : (x y z : ℕ) → 2 ^ 53 * x ≤ 2 ^ 53 * a + a + 2 ^ 52 * b → z ≡ 2 * y + 2 * b → 0 < b → a < y → x < z
    last x y z p q B l = omega arith

-- z is a / b units with a sign, rounded
record Rounded (z : Float) (s : Bool) (a b : ℕ) : Type 0 where
  size : ℕ
  value : HasValue z s size (2 ^ 1074)
  near : Near size a b

-- num / den, which is a / b units
round_near : (s : Bool) (num den a b : ℕ) → 0 < den → 0 < b → num * unit * b ≡ a * den → a < b * limit → Rounded (round binary64 s num den) s a b
round_near s num den a b D B e small =
    let n = num * unit in
    let q = kept 53 n den in
    let k = drop 53 n den in
    let near : Near (q * 2 ^ k) a b = near_as (q * 2 ^ k) n den a b D e (grid_near n den D) in
    record {
      size = q * 2 ^ k;
      value = subst (λ (z : Float). HasValue z s (q * 2 ^ k) (2 ^ 1074)) (sym (round_is binary64 s num den))
          (units_val binary64 s q k (lt_of_lt_of_le (below_twice (q * 2 ^ k) a b limit B small near) fits));
      near = near;
    }
  where
    fits : 2 * limit + 2 ≤ 2 ^ 2098
    fits = leb→le (2 * limit + 2) (2 ^ 2098) tt

-- ---- the result of an operation

-- z is a / d units rounded, and that fraction is at most k / d in size
pub record Result (z : Float) (a : Signed) (d k : ℕ) : Type 0 where
  pub units : Signed
  pub is : Is z units
  pub close : Close (d · units) a ((k + 2 ^ 52 * d) / 2 ^ 53)

-- the same signed number
abbrev Same : Signed → Signed → Type 0
Same a b = a.plus + b.minus ≡ a.minus + b.plus

-- a is x with the sign t
result : {z : Float} {t : Bool} {x d : ℕ} (a : Signed) (k : ℕ) → Rounded z t x d → Same a (signed t x) → x ≤ k → Result z a d k
result {z} {t} {x} {d} a k r e l = record {
  units = signed t r.size;
  is = record { sign = t; size = r.size; value = r.value; same = refl };
  close = go t a e;
}
  where
    up : (v x a b : ℕ) → a + 0 ≡ b + x → x ≤ k → 2 ^ 53 * v ≤ 2 ^ 53 * x + x + 2 ^ 52 * d → v + b ≤ d * 0 + a + (k + 2 ^ 52 * d) / 2 ^ 53
    up v x a b e l h = omega arith

    down : (v x a b : ℕ) → a + 0 ≡ b + x → x ≤ k → 2 ^ 53 * x ≤ 2 ^ 53 * v + x + 2 ^ 52 * d → d * 0 + a ≤ v + b + (k + 2 ^ 52 * d) / 2 ^ 53
    down v x a b e l h = omega arith

    swapped : (P : ℕ → Type 0) → P (r.size * d) → P (d * r.size)
    swapped P h = subst P (mul_comm r.size d) h

    close : (a b : ℕ) → a + 0 ≡ b + x → Close (d · (r.size ⊖ 0)) (a ⊖ b) ((k + 2 ^ 52 * d) / 2 ^ 53)
    close a b e = record {
      above = up (d * r.size) x a b e l (swapped (λ (y : ℕ). 2 ^ 53 * y ≤ 2 ^ 53 * x + x + 2 ^ 52 * d) r.near.above);
      below = down (d * r.size) x a b e l (swapped (λ (y : ℕ). 2 ^ 53 * x ≤ 2 ^ 53 * y + x + 2 ^ 52 * d) r.near.below);
    }

    go : (t : Bool) (a : Signed) → Same a (signed t x) → Close (d · signed t r.size) a ((k + 2 ^ 52 * d) / 2 ^ 53)
    go false a e = close a.plus a.minus e
    go true a e = close_negated (close a.minus a.plus (sym e))

-- ---- sums and differences

sub_mul : (m n k : ℕ) → (m - n) * k ≡ m * k - n * k
sub_mul m n k = mul_comm (m - n) k ∙ mul-sub k m n ∙ ap (λ (x : ℕ). x - k * n) (mul_comm k m) ∙ ap (λ (x : ℕ). m * k - x) (mul_comm k n)

-- two numbers a / c and b / c that are P and Q units
record Fractions (a b c P Q : ℕ) : Type 0 where
  some : 0 < c
  first : a * unit ≡ P * c
  second : b * unit ≡ Q * c
  small : P + Q < limit

swapped : {a b c P Q : ℕ} → Fractions a b c P Q → Fractions b a c Q P
swapped {a} {b} {c} {P} {Q} f = record {
  some = f.some;
  first = f.second;
  second = f.first;
  small = subst (λ (x : ℕ). x < limit) (add_comm P Q) f.small;
}

-- their order is that of the units
units_le : {a b c P Q : ℕ} → Fractions a b c P Q → b ≤ a → Q ≤ P
units_le {a} {b} {c} {P} {Q} f h =
    le_of_mul-le-mul_right {k = c} (le_trans (le_of_eq (sym f.second)) (le_trans (mul-le-mul_right unit h) (le_of_eq f.first))) f.some

-- a rounded fraction over 1
whole : (s : Bool) (num c x : ℕ) → 0 < c → num * unit ≡ x * c → x < limit → Rounded (round binary64 s num c) s x 1
whole s num c x C e l = round_near s num c x 1 C (omega arith) (mul-one (num * unit) ∙ e) (subst (λ (y : ℕ). x < y) (sym (one limit)) l)
  where
    one : (x : ℕ) → 1 * x ≡ x
    one x = omega arith

sum_of : (s : Bool) {a b c P Q : ℕ} → Fractions a b c P Q → Rounded (round binary64 s (a + b) c) s (P + Q) 1
sum_of s {a} {b} {c} {P} {Q} f = whole s (a + b) c (P + Q) f.some both f.small
  where
    both : (a + b) * unit ≡ (P + Q) * c
    both = add-mul a b unit ∙ ap (λ (x : ℕ). x + b * unit) f.first ∙ ap (λ (x : ℕ). P * c + x) f.second ∙ sym (add-mul P Q c)

difference_of : (s : Bool) {a b c P Q : ℕ} → Fractions a b c P Q → Rounded (round binary64 s (a - b) c) s (P - Q) 1
difference_of s {a} {b} {c} {P} {Q} f = whole s (a - b) c (P - Q) f.some both (lt_of_le_of_lt (under P Q) f.small)
  where
    both : (a - b) * unit ≡ (P - Q) * c
    both = sub_mul a b unit ∙ ap (λ (x : ℕ). x - b * unit) f.first ∙ ap (λ (x : ℕ). P * c - x) f.second ∙ sym (sub_mul P Q c)

    under : (x y : ℕ) → x - y ≤ x + y
    under x y = omega arith

-- the sum of a number with the sign s and one with the other sign; where it is 0 its sign is +
module _ {a b c P Q : ℕ} (k : ℕ) (f : Fractions a b c P Q) (h : Small (P ⊖ Q) k) (s : Bool) where
  abbrev both : Signed
  both = signed s P ⊕ signed (not s) Q

  second_larger : a < b → Result (round binary64 (not s) (b - a) c) both 1 k
  second_larger l = result both k (difference_of (not s) (swapped f)) (same s (units_le (swapped f) (le_of_lt l))) (omega (arith, h.below))
    where
      same : (s : Bool) → P ≤ Q → Same (signed s P ⊕ signed (not s) Q) (signed (not s) (Q - P))
      same false o = omega arith
      same true o = omega arith

  first_larger : (o : Bool) → (T (not o) → a ≤ b) → b ≤ a → Result (round binary64 (s && o) (a - b) c) both 1 k
  first_larger o g l = result both k (difference_of (s && o) f) (same s o g (units_le f l)) (omega (arith, h.above))
    where
      same : (s o : Bool) → (T (not o) → a ≤ b) → Q ≤ P → Same (signed s P ⊕ signed (not s) Q) (signed (s && o) (P - Q))
      same false o g m = omega arith
      same true true g m = omega arith
      same true false g m = let e = units_le (swapped f) (g tt) in omega arith

  opposite : Result (cond (ltb a b) (round binary64 (not s) (b - a) c) (round binary64 (s && ltb b a) (a - b) c)) both 1 k
  opposite = go (ltb a b) (ltb→lt a b) (nltb→le a b)
    where
      go : (o : Bool) → (T o → a < b) → (T (not o) → b ≤ a)
          → Result (cond o (round binary64 (not s) (b - a) c) (round binary64 (s && ltb b a) (a - b) c)) both 1 k
      go true l g = second_larger (l tt)
      go false l g = first_larger (ltb b a) (nltb→le b a) (g tt)

sum_near : (s t : Bool) {a b c P Q : ℕ} (k : ℕ) → Fractions a b c P Q → Small (signed s P ⊕ signed t Q) k
    → Result (sum binary64 s a t b c) (signed s P ⊕ signed t Q) 1 k
unfolding sum
sum_near false false {P = P} {Q = Q} k f h = result (P ⊖ 0 ⊕ Q ⊖ 0) k (sum_of false f) (omega arith) (omega (arith, h.above))
sum_near true true {P = P} {Q = Q} k f h = result (0 ⊖ P ⊕ 0 ⊖ Q) k (sum_of true f) (omega arith) (omega (arith, h.below))
sum_near false true k f h = opposite k f (record { above = omega (arith, h.above); below = omega (arith, h.below) }) false
sum_near true false k f h = opposite k f (record { above = omega (arith, h.below); below = omega (arith, h.above) }) true

-- over the common divisor
pub scaled_units : (w c d P : ℕ) → w * unit ≡ P * c → w * d * unit ≡ P * (c * d)
scaled_units w c d P e = mul_right_comm w d unit ∙ ap (λ (x : ℕ). x * d) e ∙ mul_assoc P c d

add_values : (x y : Float) (s t : Bool) (P Q k : ℕ) → HasValue x s P (2 ^ 1074) → HasValue y t Q (2 ^ 1074) → P + Q < limit → Small (signed s P ⊕ signed t Q) k
    → Result (add binary64 x y) (signed s P ⊕ signed t Q) 1 k
unfolding add
add_values nan y s t P Q k u v l h = absurd u
add_values (inf _) y s t P Q k u v l h = absurd u
add_values (fin _ _ _) nan s t P Q k u v l h = absurd v
add_values (fin _ _ _) (inf _) s t P Q k u v l h = absurd v
add_values (fin s' w c) (fin t' z d) s t P Q k u v l h =
    subst (λ (o : Bool). Result (sum binary64 o (w * up c * down d) t' (z * up d * down c) (down c * down d)) (signed s P ⊕ signed t Q) 1 k) (sym u.0)
    (subst (λ (o : Bool). Result (sum binary64 s (w * up c * down d) o (z * up d * down c) (down c * down d)) (signed s P ⊕ signed t Q) 1 k) (sym v.0)
    (sum_near s t k (record {
      some = mul-pos (down_pos c) (down_pos d);
      first = scaled_units (w * up c) (down c) (down d) P u.1;
      second = scaled_units (z * up d) (down d) (down c) Q v.1 ∙ ap (λ (x : ℕ). Q * x) (mul_comm (down d) (down c));
      small = l;
    }) h))

-- a sum
pub add_near : {x y : Float} {s t : Signed} {k : ℕ} → Is x s → Is y t → total s + total t < limit → Small (s ⊕ t) k → Result (add binary64 x y) (s ⊕ t) 1 k
add_near {x} {y} {s} {t} {k} i j =
    by_sign (λ (s : Signed). Law s t) i (λ a P u. by_sign (λ (t : Signed). Law (signed a P) t) j (λ b Q v l h. at a P u b Q v l h))
  where
    Law : Signed → Signed → Type 0
    Law s t = total s + total t < limit → Small (s ⊕ t) k → Result (add binary64 x y) (s ⊕ t) 1 k

    at : (a : Bool) (P : ℕ) → HasValue x a P (2 ^ 1074) → (b : Bool) (Q : ℕ) → HasValue y b Q (2 ^ 1074) → Law (signed a P) (signed b Q)
    at a P u b Q v l h = add_values x y a b P Q k u v (rw (← total_signed a P, ← total_signed b Q) l) h

-- the negative
pub neg_is : {x : Float} {s : Signed} → Is x s → Is (neg x) (negated s)
unfolding neg
neg_is {x} {s} i = by_sign (λ (s : Signed). Is (neg x) (negated s)) i (λ b n v. record { sign = not b; size = n; value = value x b n v; same = swap b n })
  where
    swap : (b : Bool) (n : ℕ) → negated (signed b n) ≡ signed (not b) n
    swap false n = refl
    swap true n = refl

    value : (x : Float) (b : Bool) (n : ℕ) → HasValue x b n (2 ^ 1074) → HasValue (neg x) (not b) n (2 ^ 1074)
    value nan b n v = absurd v
    value (inf _) b n v = absurd v
    value (fin _ _ _) b n v = (ap not v.0, v.1)

-- a difference
pub sub_near : {x y : Float} {s t : Signed} {k : ℕ} → Is x s → Is y t → total s + total t < limit → Small (s ⊟ t) k → Result (sub binary64 x y) (s ⊟ t) 1 k
unfolding sub
sub_near {x} {y} {s} {t} i j l h = add_near i (neg_is j) (subst (λ (z : ℕ). total s + z < limit) (add_comm t.plus t.minus) l) h

-- ---- products

-- the product of P and Q units is P * Q / 2 ^ 1074 units
product_units : (w c z d P Q u : ℕ) → w * u ≡ P * c → z * u ≡ Q * d → w * z * u * u ≡ P * Q * (c * d)
product_units w c z d P Q u e f = regroup w z u ∙ ap (λ (x : ℕ). x * (z * u)) e ∙ ap (λ (x : ℕ). P * c * x) f ∙ mul-mul-mul_comm P c Q d
  where
    regroup : (w z u : ℕ) → w * z * u * u ≡ w * u * (z * u)
    regroup w z u = simp poly

product_same : (s t : Bool) (P Q : ℕ) → Same (signed s P ⊗ signed t Q) (signed (unlike s t) (P * Q))
product_same false false P Q = omega arith
product_same false true P Q = omega arith
product_same true false P Q = omega arith
product_same true true P Q = omega arith

mul_values : (x y : Float) (s t : Bool) (P Q k : ℕ) → HasValue x s P (2 ^ 1074) → HasValue y t Q (2 ^ 1074) → P * Q < unit * limit → P * Q ≤ k
    → Result (mul binary64 x y) (signed s P ⊗ signed t Q) unit k
unfolding mul
mul_values nan y s t P Q k u v l h = absurd u
mul_values (inf _) y s t P Q k u v l h = absurd u
mul_values (fin _ _ _) nan s t P Q k u v l h = absurd v
mul_values (fin _ _ _) (inf _) s t P Q k u v l h = absurd v
mul_values (fin s' w c) (fin t' z d) s t P Q k u v l h =
    subst (λ (o : Bool). Result (rounded (unlike o t')) (signed s P ⊗ signed t Q) unit k) (sym u.0)
    (subst (λ (o : Bool). Result (rounded (unlike s o)) (signed s P ⊗ signed t Q) unit k) (sym v.0)
    (result (signed s P ⊗ signed t Q) k
    (round_near (unlike s t) (w * up c * (z * up d)) (down c * down d) (P * Q) unit (mul-pos (down_pos c) (down_pos d)) (pow_pos 1074)
    (product_units (w * up c) (down c) (z * up d) (down d) P Q unit u.1 v.1) l)
    (product_same s t P Q) h))
  where
    rounded : Bool → Float
    rounded o = round binary64 o (w * up c * (z * up d)) (down c * down d)

-- a product
pub mul_near : {x y : Float} {s t : Signed} {k : ℕ} → Is x s → Is y t → total s * total t < unit * limit → total s * total t ≤ k
    → Result (mul binary64 x y) (s ⊗ t) unit k
mul_near {x} {y} {s} {t} {k} i j =
    by_sign (λ (s : Signed). Law s t) i (λ a P u. by_sign (λ (t : Signed). Law (signed a P) t) j (λ b Q v l h. at a P u b Q v l h))
  where
    Law : Signed → Signed → Type 0
    Law s t = total s * total t < unit * limit → total s * total t ≤ k → Result (mul binary64 x y) (s ⊗ t) unit k

    at : (a : Bool) (P : ℕ) → HasValue x a P (2 ^ 1074) → (b : Bool) (Q : ℕ) → HasValue y b Q (2 ^ 1074) → Law (signed a P) (signed b Q)
    at a P u b Q v l h = mul_values x y a b P Q k u v (rw (← total_signed a P, ← total_signed b Q) l) (rw (← total_signed a P, ← total_signed b Q) h)

-- ---- quotients

-- the quotient of P and Q units is P * 2 ^ 1074 / Q units
quotient_units : (w c z d P Q u : ℕ) → w * u ≡ P * c → z * u ≡ Q * d → w * d * u * Q ≡ u * P * (z * c)
quotient_units w c z d P Q u e f = regroup w d u Q ∙ ap (λ (x : ℕ). x * (Q * d)) e ∙ ap (λ (x : ℕ). P * c * x) (sym f) ∙ regroup' P c z u
  where
    regroup : (w d u Q : ℕ) → w * d * u * Q ≡ w * u * (Q * d)
    regroup w d u Q = simp poly

    regroup' : (P c z u : ℕ) → P * c * (z * u) ≡ u * P * (z * c)
    regroup' P c z u = simp poly

quotient_same : (s : Bool) (u P : ℕ) → Same (u · signed s P) (signed s (u * P))
quotient_same false u P = omega arith
quotient_same true u P = omega arith

-- a divisor of Q units, above 0, has a significand above 0
pub divisor_some : (z e d Q : ℕ) → 0 < d → 0 < Q → z * e * unit ≡ Q * d → 0 < z
divisor_some zero e d Q D Qp h =
    absurd (lt_irrefl 0 (subst (λ (y : ℕ). 0 < y) (sym h ∙ ap (λ (x : ℕ). x * unit) (zero-mul e) ∙ zero-mul unit) (mul-pos Qp D)))
divisor_some (suc z) e d Q D Qp h = omega arith

-- so the division is no division by 0
pub divisor_test : (z : ℕ) → 0 < z → T (not (eqb z 0))
divisor_test z h = not_T (eqb z 0) (λ (t : T (eqb z 0)). lt_irrefl 0 (subst (λ (y : ℕ). 0 < y) (eqb→eq z 0 t) h))

div_values : (x y : Float) (s : Bool) (P Q k : ℕ) → HasValue x s P (2 ^ 1074) → HasValue y false Q (2 ^ 1074) → 0 < Q → unit * P < Q * limit → unit * P ≤ k
    → Result (div binary64 x y) (unit · signed s P) Q k
unfolding div
div_values nan y s P Q k u v Qp l h = absurd u
div_values (inf _) y s P Q k u v Qp l h = absurd u
div_values (fin _ _ _) nan s P Q k u v Qp l h = absurd v
div_values (fin _ _ _) (inf _) s P Q k u v Qp l h = absurd v
div_values (fin s' w c) (fin t' z d) s P Q k u v Qp l h =
    subst (λ (o : Bool). Result (quotient o t') (unit · signed s P) Q k) (sym u.0)
    (subst (λ (o : Bool). Result (quotient s o) (unit · signed s P) Q k) (sym v.0)
    (subst (λ (o : Float). Result o (unit · signed s P) Q k) (sym no_zero)
    (result (unit · signed s P) k
    (subst (λ (o : Bool). Rounded (rounded o) s (unit * P) Q) (same s)
    (round_near s (w * up c * down d) (z * up d * down c) (unit * P) Q (mul-pos (mul-pos some (up_pos d)) (down_pos c)) Qp
    (quotient_units (w * up c) (down c) (z * up d) (down d) P Q unit u.1 v.1) l))
    (quotient_same s unit P) h)))
  where
    rounded : Bool → Float
    rounded o = round binary64 o (w * up c * down d) (z * up d * down c)

    quotient : Bool → Bool → Float
    quotient o p = cond (eqb z 0) (cond (eqb w 0) nan (inf (unlike o p))) (rounded (unlike o p))

    some : 0 < z
    some = divisor_some z (up d) (down d) Q (down_pos d) Qp v.1

    no_zero : quotient s false ≡ rounded (unlike s false)
    no_zero = cond_no (eqb z 0) (cond (eqb w 0) nan (inf (unlike s false))) (rounded (unlike s false)) (divisor_test z some)

    same : (s : Bool) → s ≡ unlike s false
    same false = refl
    same true = refl

-- a quotient by a divisor of Q units, above 0
pub div_near : {x : Float} (y : Float) {s : Signed} {Q k : ℕ} → Is x s → HasValue y false Q (2 ^ 1074) → 0 < Q → unit * total s < Q * limit → unit * total s ≤ k
    → Result (div binary64 x y) (unit · s) Q k
div_near {x} y {s} {Q} {k} i v Qp =
    by_sign (λ (s : Signed). unit * total s < Q * limit → unit * total s ≤ k → Result (div binary64 x y) (unit · s) Q k) i
    (λ a P u l h. div_values x y a P Q k u v Qp (rw (← total_signed a P) l) (rw (← total_signed a P) h))
