-- Ring lengths that add up to the points, and where each ring starts. Assumes nothing.
use Prim.Native.Nat.{ℕ, ◌+◌, ◌-◌, ◌*◌, ◌/◌, ◌≤◌, ◌<◌}
use native.Mathlib.Omega.{arith}
use mathlib.Core.Path.{◌≡◌, refl, sym, ap, subst}
use mathlib.Core.Bool.{Bool, true, false, ◌&&◌}
use mathlib.Core.List.{List}
use borrow.Author.Tests.{ne_eqb}
use lib.Dec.{ltb, eqb}
use lib.ListN.{length, get_or}
use lib.Ieee.{Float}
use Rattle.base.specs.Loop.{rounds}
use Rattle.base.proofs.Laws.{next_round, ends}
use Rattle.base.proofs.Sums.{sums_to}
use Rattle.region.specs.Checks.{total_step, total, lengths_fit}
use Rattle.region.proofs.LengthsFit.{all_numbers}

-- the vertices of the first k rings
abbrev pub sum_of : List ℕ → ℕ → ℕ
sum_of lengths k = rounds (total_step lengths) k 0

pub one_ring : (lengths : List ℕ) → sum_of lengths 1 ≡ get_or lengths 0 0
unfolding rounds total_step
one_ring lengths = omega arith

pub next_ring : (lengths : List ℕ) (k s n : ℕ) → s ≡ sum_of lengths k → n ≡ get_or lengths k 0 → s + n ≡ sum_of lengths (k + 1)
unfolding total_step
next_ring lengths k s n e f = rw (next_round (total_step lengths) k 0, e, f) refl

pub at_most_all : (lengths : List ℕ) (k : ℕ) → k ≤ length lengths → sum_of lengths k ≤ total lengths
unfolding total total_step
at_most_all lengths k l = sums_to (total_step lengths) (λ i. get_or lengths i 0) (λ i s. refl) k (length lengths) l

-- ---- question 3
never : (a b : Bool) → b ≡ false → false ≡ (a && b)
never true b h = sym h
never false b h = refl

module _ (lengths : List ℕ) (ps : List Float) (k sum : ℕ) (e : sum ≡ sum_of lengths k) where
  pub too_many : (most n : ℕ) → most ≡ length ps / 2 → sum ≤ most → k < length lengths → n ≡ get_or lengths k 0 → most - sum < n → false ≡ lengths_fit lengths ps
  unfolding lengths_fit
  too_many most n em le l en h =
      let more : sum + n ≤ total lengths = subst (λ (x : ℕ). x ≤ total lengths) (sym (next_ring lengths k sum n e en)) (at_most_all lengths (k + 1) (omega arith)) in
      never (ltb 0 (length lengths)) (eqb (2 * total lengths) (length ps)) (ne_eqb (2 * total lengths) (length ps) (λ (q : 2 * total lengths ≡ length ps). omega arith))

  pub adds_up : k ≤ length lengths → length lengths ≤ k → (ltb 0 (length lengths) && eqb (2 * sum) (length ps)) ≡ lengths_fit lengths ps
  unfolding lengths_fit total
  adds_up l h = ap (λ (x : ℕ). ltb 0 (length lengths) && eqb (2 * x) (length ps)) (ends (total_step lengths) 0 sum k (length lengths) l h e)

-- ---- lengths that fit
module _ (lengths : List ℕ) (ps : List Float) (fit : lengths_fit lengths ps ≡ true) where
  -- the numbers of the first k rings are there
  pub there : (k s : ℕ) → k ≤ length lengths → s ≡ sum_of lengths k → 2 * s ≤ length ps
  there k s l e = omega (arith, all_numbers lengths ps fit, at_most_all lengths k l, e)

  -- and those of the ring after the first k + 1
  pub next_there : (k s n : ℕ) → k < length lengths - 1 → s ≡ sum_of lengths (k + 1) → n ≡ get_or lengths (k + 1) 0 → 2 * (s + n) ≤ length ps
  next_there k s n l e f = there (k + 1 + 1) (s + n) (omega arith) (next_ring lengths (k + 1) s n e f)
