-- The extent of a ring is its largest absolute coordinate. Assumes nothing.
use mathlib.Core.Path.{◌≡◌, sym, subst}
use mathlib.Core.Logic.{◌⊎◌, inl, inr}
use mathlib.Core.Bool.{false}
use mathlib.Core.List.{List}
use Prim.Native.Nat.{ℕ, ◌*◌, ◌^◌, ◌≤◌, ◌<◌, zero-le}
use native.Mathlib.Nat.{le_trans, le_of_eq, le_antisymm}
use native.Mathlib.Omega.{arith}
use lib.ListN.{get_or}
use lib.Ieee.{Float, nan}
use lib.Ieee.Exact.{HasValue}
use Rattle.math.specs.Number.{finite}
use Rattle.margins.specs.Far.{over, magnitude}
use Rattle.ring_measure.specs.Measures.{extent}
use Rattle.ring_measure.proofs.Extents.{Extent, extent_of}
use Rattle.margin.specs.Margin.{Largest, ExtentLargest}
use Rattle.margin.proofs.Sizes.{over_is, abs_is, Sound, proper_sound}

module _ (ps : List Float) (n : ℕ) (ring : Sound ps n) where
  -- coordinate i in units, without its sign
  abbrev units : ℕ → ℕ
  units i = magnitude (get_or ps i nan)

  measured : Extent units n (extent ps n)
  measured = extent_of ps n units (λ i l. abs_is (get_or ps i nan) (ring.doubles i) (ring.fine i l).finite)

  -- ---- what is known of the extent

  pub extent_value : HasValue (extent ps n) false (over (extent ps n)) (2 ^ 1074)
  extent_value =
      let x = measured in
      subst (λ (a : ℕ). HasValue (extent ps n) false a (2 ^ 1074)) (sym (over_is (extent ps n) x.size x.value)) x.value

  pub extent_largest : Largest ps n (over (extent ps n))
  extent_largest =
      let x = measured in
      subst (Largest ps n) (sym (over_is (extent ps n) x.size x.value)) (some x.size x.each x.one)
    where
      some : (m : ℕ) → ((i : ℕ) → i < 2 * n → units i ≤ m) → (m ≡ 0) ⊎ ((i : ℕ) × ((i < 2 * n) × (units i ≡ m))) → Largest ps n m
      some m h (inl e) =
          let N : 0 < n = ring.some in
          record {
            each = h;
            place = 0;
            within = omega arith;
            reached = le_antisymm (h 0 (omega arith)) (le_trans (le_of_eq e) zero-le);
          }
      some m h (inr c) = record { each = h; place = c.0; within = c.1.0; reached = c.1.1 }

  pub extent_small : over (extent ps n) ≤ 1000000000 * 2 ^ 1074
  extent_small = let x = extent_largest in le_trans (le_of_eq (sym x.reached)) (ring.fine x.place x.within).size

pub largest_is : ExtentLargest
largest_is o d q = extent_largest o.points o.count (proper_sound 128 o.points o.count d q)
