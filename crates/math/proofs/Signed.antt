-- Signed whole numbers, each the difference of two naturals: how far apart two of them are, how large one is, and what sums and products
-- make of that. Vectors of the plane are pairs of them. Assumes nothing.
use mathlib.Core.Path.{◌≡◌, sym, subst}
use Prim.Native.Nat.{ℕ, ◌+◌, ◌-◌, ◌*◌, ◌≤◌, ◌<◌}
use native.Mathlib.Nat.{mul-le-mul_left, mul-le-mul_right, le_of_mul-le-mul_left}
use native.Mathlib.Omega.{arith}
use Rattle.math.proofs.Naturals.{Order, more, less, order}

-- plus - minus
pub record Signed : Type 0 where
  pub plus : ℕ
  pub minus : ℕ

-- p - m
infix 80 ◌⊖◌
abbrev pub ◌⊖◌ : ℕ → ℕ → Signed
p ⊖ m = record { plus = p; minus = m }

-- sum, difference, product, a multiple, and the negative
infixl 65 ◌⊕◌
abbrev pub ◌⊕◌ : Signed → Signed → Signed
a ⊕ b = (a.plus + b.plus) ⊖ (a.minus + b.minus)

infixl 65 ◌⊟◌
abbrev pub ◌⊟◌ : Signed → Signed → Signed
a ⊟ b = (a.plus + b.minus) ⊖ (a.minus + b.plus)

infixl 70 ◌⊗◌
abbrev pub ◌⊗◌ : Signed → Signed → Signed
a ⊗ b = (a.plus * b.plus + a.minus * b.minus) ⊖ (a.plus * b.minus + a.minus * b.plus)

infixr 75 ◌·◌
abbrev pub ◌·◌ : ℕ → Signed → Signed
k · a = (k * a.plus) ⊖ (k * a.minus)

abbrev pub negated : Signed → Signed
negated a = a.minus ⊖ a.plus

-- both parts together: where one of them is 0, the size
abbrev pub total : Signed → ℕ
total a = a.plus + a.minus

-- the size
abbrev pub size : Signed → ℕ
size a = a.plus - a.minus + (a.minus - a.plus)

-- the square of the size
abbrev pub square : Signed → ℕ
square a = size a * size a

-- j times the way to w from the point i / j of x
abbrev pub past : Signed → Signed → ℕ → ℕ → Signed
past w x i j = j · w ⊟ i · x

-- ---- how far apart, and how large

-- r lies within e of a
pub record Close (r a : Signed) (e : ℕ) : Type 0 where
  pub above : r.plus + a.minus ≤ r.minus + a.plus + e
  pub below : r.minus + a.plus ≤ r.plus + a.minus + e

-- a is at most e in size
pub record Small (a : Signed) (e : ℕ) : Type 0 where
  pub above : a.plus ≤ a.minus + e
  pub below : a.minus ≤ a.plus + e

-- errors add up
pub close_trans : {r a c : Signed} {e f : ℕ} → Close r a e → Close a c f → Close r c (e + f)
close_trans x y = record { above = omega (arith, x.above, y.above); below = omega (arith, x.below, y.below) }

-- those of a sum, too
pub close_add : {r a r' a' : Signed} {e e' : ℕ} → Close r a e → Close r' a' e' → Close (r ⊕ r') (a ⊕ a') (e + e')
close_add x y = record { above = omega (arith, x.above, y.above); below = omega (arith, x.below, y.below) }

-- the same error below 0
pub close_negated : {r a : Signed} {e : ℕ} → Close (negated r) (negated a) e → Close r a e
close_negated x = record { above = x.below; below = x.above }

-- a common factor
pub close_scale : (k : ℕ) {r a : Signed} {e : ℕ} → Close r a e → Close (k · r) (k · a) (k * e)
close_scale k {r} {a} {e} x = record {
  above = spread r.plus a.minus r.minus a.plus (mul-le-mul_left k x.above);
  below = spread r.minus a.plus r.plus a.minus (mul-le-mul_left k x.below);
}
  where
    spread : (p q v w : ℕ) → k * (p + q) ≤ k * (v + w + e) → k * p + k * q ≤ k * v + k * w + k * e
    spread p q v w h = omega arith

-- a common factor taken out
pub close_factor : (u : ℕ) (a b : Signed) {c : Signed} {e : ℕ} → Close (u · a ⊕ u · b) c e → Close (u · (a ⊕ b)) c e
close_factor u a b x = record { above = omega (arith, x.above); below = omega (arith, x.below) }

-- a factor of 1 left out
pub close_one : {a b : Signed} {e : ℕ} → Close (1 · a) b e → Close a b e
close_one x = record { above = omega (arith, x.above); below = omega (arith, x.below) }

-- what is close to a small number is small
pub small_close : {r a : Signed} {e f : ℕ} → Close r a e → Small a f → Small r (e + f)
small_close x y = record { above = omega (arith, x.above, y.above); below = omega (arith, x.below, y.below) }

-- a larger bound, the negative, sums and differences
pub small_more : {a : Signed} {e f : ℕ} → Small a e → e ≤ f → Small a f
small_more x l = record { above = omega (arith, x.above); below = omega (arith, x.below) }

pub small_negated : {a : Signed} {e : ℕ} → Small a e → Small (negated a) e
small_negated x = record { above = x.below; below = x.above }

pub small_add : {a b : Signed} {e f : ℕ} → Small a e → Small b f → Small (a ⊕ b) (e + f)
small_add x y = record { above = omega (arith, x.above, y.above); below = omega (arith, x.below, y.below) }

pub small_sub : {a b : Signed} {e f : ℕ} → Small a e → Small b f → Small (a ⊟ b) (e + f)
small_sub x y = record { above = omega (arith, x.above, y.below); below = omega (arith, x.below, y.above) }

-- t of at most u times a
pub small_scale : {a : Signed} (t u e : ℕ) → t ≤ u → Small a e → Small (t · a) (u * e)
small_scale {a} t u e l x = record {
  above = under a.plus a.minus (mul-le-mul_left t x.above);
  below = under a.minus a.plus (mul-le-mul_left t x.below);
}
  where
    under : (p m : ℕ) → t * p ≤ t * (m + e) → t * p ≤ t * m + u * e
    under p m h = let k = mul-le-mul_right e l in omega arith

-- a common factor above 0 left out
pub small_cancel : {a : Signed} (u e : ℕ) → 0 < u → Small (u · a) (u * e) → Small a e
small_cancel {a} u e U x = record {
  above = le_of_mul-le-mul_left {k = u} (under a.plus a.minus x.above) U;
  below = le_of_mul-le-mul_left {k = u} (under a.minus a.plus x.below) U;
}
  where
    under : (p m : ℕ) → u * p ≤ u * m + u * e → u * p ≤ u * (m + e)
    under p m h = omega arith

-- ---- products

-- times a number c ≥ 0
close_ahead : (r a : Signed) (e h m k : ℕ) → Close r a e → k ≤ h → Close (r ⊗ ((m + k) ⊖ m)) (a ⊗ ((m + k) ⊖ m)) (e * h)
close_ahead r a e h m k x l = record {
  above = times r.plus r.minus a.plus a.minus (mul-le-mul_right k x.above) (mul-le-mul_left e l);
  below = times' r.plus r.minus a.plus a.minus (mul-le-mul_right k x.below) (mul-le-mul_left e l);
}
  where
    times : (p q v w : ℕ) → (p + w) * k ≤ (q + v + e) * k → e * k ≤ e * h
        → p * (m + k) + q * m + (v * m + w * (m + k)) ≤ p * m + q * (m + k) + (v * (m + k) + w * m) + e * h
    times p q v w f g = omega arith

    times' : (p q v w : ℕ) → (q + v) * k ≤ (p + w + e) * k → e * k ≤ e * h
        → p * m + q * (m + k) + (v * (m + k) + w * m) ≤ p * (m + k) + q * m + (v * m + w * (m + k)) + e * h
    times' p q v w f g = omega arith

-- times c, which is at most h in size
close_times : {r a c : Signed} {e h : ℕ} → Close r a e → Small c h → Close (r ⊗ c) (a ⊗ c) (e * h)
close_times {r} {a} {c} {e} {h} x y = go (order c.plus c.minus)
  where
    within : (p m k : ℕ) → p ≤ m + h → p ≡ m + k → k ≤ h
    within p m k f g = omega arith

    go : Order c.plus c.minus → Close (r ⊗ c) (a ⊗ c) (e * h)
    go (more k o) =
        subst (λ (z : ℕ). Close (r ⊗ (z ⊖ c.minus)) (a ⊗ (z ⊖ c.minus)) (e * h)) (sym o)
        (close_ahead r a e h c.minus k x (within c.plus c.minus k y.above o))
    go (less k o) =
        close_negated
        (subst (λ (z : ℕ). Close (r ⊗ (z ⊖ c.plus)) (a ⊗ (z ⊖ c.plus)) (e * h)) (sym o)
        (close_ahead r a e h c.plus k x (within c.minus c.plus k y.below o)))

-- two products
pub close_product : {r a s b : Signed} {e f h w : ℕ} → Close r a e → Close s b f → Small s h → Small a w
    → Close (r ⊗ s) (a ⊗ b) (e * h + f * w)
close_product {r} {a} {s} {b} {e} {f} {h} {w} x y p q = close_trans {a = a ⊗ s} (close_times x p) (swap (close_times y q))
  where
    swap : Close (s ⊗ a) (b ⊗ a) (f * w) → Close (a ⊗ s) (a ⊗ b) (f * w)
    swap z = record { above = omega (arith, z.above); below = omega (arith, z.below) }

-- the product of two small numbers
pub small_product : {a b : Signed} {w h : ℕ} → Small a w → Small b h → Small (a ⊗ b) (w * h)
small_product {a} {b} {w} {h} x y = plain (close_times {a = 0 ⊖ 0} (record { above = omega (arith, x.above); below = omega (arith, x.below) }) y)
  where
    plain : Close (a ⊗ b) ((0 ⊖ 0) ⊗ b) (w * h) → Small (a ⊗ b) (w * h)
    plain z = record { above = omega (arith, z.above); below = omega (arith, z.below) }

-- ---- vectors

-- east and north
pub record Vector : Type 0 where
  pub east : Signed
  pub north : Signed

-- from a to b
abbrev pub from_to : Vector → Vector → Vector
from_to a b = record { east = b.east ⊟ a.east; north = b.north ⊟ a.north }

-- the dot product
abbrev pub inner : Vector → Vector → Signed
inner v w = v.east ⊗ w.east ⊕ v.north ⊗ w.north

-- the square of the length
abbrev pub norm : Vector → ℕ
norm v = square v.east + square v.north
