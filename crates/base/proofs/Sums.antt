-- A loop that adds up grows from round to round. Assumes nothing.
use Prim.Native.Nat.{ℕ, zero, suc, ◌+◌, ◌-◌, ◌≤◌}
use native.Mathlib.Nat.{zero-add, suc-add, sub-add_cancel}
use native.Mathlib.Omega.{arith}
use mathlib.Core.Path.{◌≡◌, subst}
use Rattle.base.specs.Loop.{rounds}

module _ (f : ℕ → ℕ → ℕ) (more : ℕ → ℕ) (body : (k s : ℕ) → f k s ≡ s + more k) where
  pub sums_grow : (m n : ℕ) → rounds f m 0 ≤ rounds f (n + m) 0
  unfolding rounds
  sums_grow m zero = rw zero-add (omega arith)
  sums_grow m (suc n) = rw suc-add (omega (arith, sums_grow m n, body (n + m) (rounds f (n + m) 0)))

  pub sums_to : (m n : ℕ) → m ≤ n → rounds f m 0 ≤ rounds f n 0
  sums_to m n l = subst (λ (i : ℕ). rounds f m 0 ≤ rounds f i 0) (sub-add_cancel l) (sums_grow m (n - m))
