-- A ring's vertices and numbers: one after the other, two by two. Assumes nothing.
use mathlib.Core.Path.{◌≡◌, refl, ap, subst}
use mathlib.Core.Bool.{Bool, true, false, cond}
use mathlib.Core.List.{List}
use Prim.Native.Nat.{ℕ, ◌+◌, ◌-◌, ◌*◌, ◌/◌, ◌%◌, ◌≤◌, ◌<◌}
use native.Mathlib.Omega.{arith}
use borrow.Author.Tests.{ltb-true, lt-ltb, le-ltb}
use lib.Dec.{ltb}
use lib.ListN.{get_or}
use lib.Ieee.{Float, nan}
use Rattle.base.proofs.Choices.{by_cases}
use Rattle.plane.specs.declared.PlanarPoint.{PlanarPoint}
use Rattle.ring.specs.Ring.{vertex_at, following, edge_end}

pub following_on : (n k : ℕ) → k < n - 1 → k + 1 ≡ following n k
unfolding following
following_on n k l = rw (lt-ltb (k + 1) n (omega arith)) refl

pub following_round : (n k : ℕ) → n - 1 ≤ k → 0 ≡ following n k
unfolding following
following_round n k l = rw (le-ltb (k + 1) n (omega arith)) refl

pub following_lt : (n k : ℕ) → k < n → following n k < n
unfolding following
following_lt n k l = go (ltb (k + 1) n) refl
  where
    go : (b : Bool) → ltb (k + 1) n ≡ b → cond b (k + 1) 0 < n
    go true e = ltb-true (k + 1) n e
    go false e = omega arith

-- what holds of every vertex holds of the ends of edges
pub at_ends : (P : PlanarPoint → Type 0) (ps : List Float) (n : ℕ) → ((k : ℕ) → k < n → P (vertex_at ps k)) → (k : ℕ) → k < n → P (edge_end ps n k)
unfolding edge_end
at_ends P ps n h k l = h (following n k) (following_lt n k l)

-- numbers go two by two
pub by_pairs : (P : ℕ → Type 0) (n : ℕ) → ((k : ℕ) → k < n → P (2 * k) × P (2 * k + 1)) → (i : ℕ) → i < 2 * n → P i
by_pairs P n h i l = by_cases (i % 2) 0
    (λ e. subst P {x = 2 * (i / 2)} (omega arith) (h (i / 2) (omega arith)).0)
    (λ e. subst P {x = 2 * (i / 2) + 1} (omega arith) (h (i / 2) (omega arith)).1)

-- the same vertices, so the same numbers
pub number_same : (qs rs : List Float) (n : ℕ) → ((k : ℕ) → k < n → vertex_at rs k ≡ vertex_at qs k) → (i : ℕ) → i < 2 * n → get_or rs i nan ≡ get_or qs i nan
unfolding vertex_at
number_same qs rs n same =
    by_pairs (λ (i : ℕ). get_or rs i nan ≡ get_or qs i nan) n (λ k l. (ap (λ (v : PlanarPoint). v.east) (same k l), ap (λ (v : PlanarPoint). v.north) (same k l)))
