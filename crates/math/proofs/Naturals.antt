-- Small laws of whole numbers: which of two is the larger, squares and their roots. Assumes nothing.
use mathlib.Core.Path.{◌≡◌, refl, sym, subst}
use mathlib.Core.Logic.{◌⊎◌, inl, inr}
use Prim.Native.Nat.{ℕ, zero, suc, ◌+◌, ◌-◌, ◌*◌, ◌≤◌, ◌<◌}
use native.Mathlib.Nat.{not-le_of_lt, mul-mul-mul_comm}
use native.Mathlib.Omega.{arith}
use Rattle.hypotenuse.proofs.Poly.{poly}
use Rattle.hypotenuse.proofs.Order.{le_or_lt, sq_mono}

-- the root keeps the order
pub root_le : (x y : ℕ) → x * x ≤ y * y → x ≤ y
root_le x y h = go (le_or_lt x y)
  where
    go : (x ≤ y) ⊎ (y < x) → x ≤ y
    go (inl l) = l
    go (inr l) = absurd (not-le_of_lt (sq_mono l) h)

-- which of two numbers is the larger, and by how much
pub data Order (a b : ℕ) : Type 0 where
  more : (k : ℕ) → a ≡ b + k → Order a b
  less : (k : ℕ) → b ≡ a + k → Order a b

-- any two numbers
pub order : (a b : ℕ) → Order a b
order a b = go (b - a) refl
  where
    go : (x : ℕ) → b - a ≡ x → Order a b
    go zero e = more (a - b) (omega arith)
    go (suc x) e = less (suc x) (omega arith)

-- the larger of two numbers
pub record Larger (a b : ℕ) : Type 0 where
  pub most : ℕ
  pub left : a ≤ most
  pub right : b ≤ most
  pub one : (most ≡ a) ⊎ (most ≡ b)

-- of any two
pub larger : (a b : ℕ) → Larger a b
larger a b = go (order a b)
  where
    go : Order a b → Larger a b
    go (more k e) = record { most = a; left = omega arith; right = omega arith; one = inl refl }
    go (less k e) = record { most = b; left = omega arith; right = omega arith; one = inr refl }

-- (a b)² = a² b²
pub square_product : (a b : ℕ) → a * b * (a * b) ≡ a * a * (b * b)
square_product a b = mul-mul-mul_comm a b a b

-- (c x)² + (c y)² = c² (x² + y²)
pub square_sum : (c x y : ℕ) → c * x * (c * x) + c * y * (c * y) ≡ c * c * (x * x + y * y)
square_sum c x y = simp poly

-- 2 x y ≤ x² + y²
pub two_products : (x y : ℕ) → 2 * (x * y) ≤ x * x + y * y
two_products x y = go (order x y)
  where
    more' : (y k : ℕ) → 2 * ((y + k) * y) ≤ (y + k) * (y + k) + y * y
    more' y k = omega arith

    less' : (x k : ℕ) → 2 * (x * (x + k)) ≤ x * x + (x + k) * (x + k)
    less' x k = omega arith

    go : Order x y → 2 * (x * y) ≤ x * x + y * y
    go (more k e) = subst (λ (z : ℕ). 2 * (z * y) ≤ z * z + y * y) (sym e) (more' y k)
    go (less k e) = subst (λ (z : ℕ). 2 * (x * z) ≤ x * x + z * z) (sym e) (less' x k)
