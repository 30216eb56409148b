-- Numbers and their squares in order. Assumes nothing.
use mathlib.Core.Path.{◌≡◌, refl}
use mathlib.Core.Logic.{◌⊎◌, inl, inr}
use Prim.Native.Nat.{ℕ, zero, suc, ◌-◌, ◌*◌, ◌≤◌, ◌<◌}
use native.Mathlib.Nat.{mul-le-mul, lt_of_not-le, not-le_of_lt, lt_of_lt_of_le}
use native.Mathlib.Omega.{arith}

pub le_or_lt : (a b : ℕ) → (a ≤ b) ⊎ (b < a)
le_or_lt a b = at (a - b) refl
  where
    at : (d : ℕ) → a - b ≡ d → (a ≤ b) ⊎ (b < a)
    at zero e = inl (omega arith)
    at (suc d) e = inr (omega arith)

pub le_of_not_lt : {a b : ℕ} → (b < a → ⊥) → a ≤ b
le_of_not_lt h = omega arith

pub sq_le : {a b : ℕ} → a ≤ b → a * a ≤ b * b
sq_le h = mul-le-mul h h

pub sq_mono : {a b : ℕ} → a < b → a * a < b * b
sq_mono {a} {b} h = lt_of_lt_of_le (first a) (sq_le h)
  where
    first : (a : ℕ) → a * a < suc a * suc a
    first a = omega arith

pub sq_lt : (a b : ℕ) → a * a < b * b → a < b
sq_lt a b h = lt_of_not-le (λ (k : b ≤ a). not-le_of_lt h (mul-le-mul k k))
