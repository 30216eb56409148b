-- The rings of a region past 21, and its extent, which is the largest absolute coordinate of all its rings. Assumes nothing.
use mathlib.Core.Path.{◌≡◌, refl, sym, ◌∙◌, subst}
use mathlib.Core.Logic.{◌⊎◌, inl, inr}
use mathlib.Core.Bool.{true, false, ◌&&◌}
use mathlib.Mathlib.Data.Bool.Basic.{and_elim_left, and_elim_right}
use Prim.Native.Nat.{ℕ, zero, suc, ◌+◌, ◌*◌, ◌^◌, ◌≤◌, zero-le}
use native.Mathlib.Nat.{le_trans, le_of_eq, le_refl}
use native.Mathlib.Omega.{arith}
use lib.Dec.{T, leb}
use lib.Seq.{get_or-drop}
use lib.Ieee.{Float, nan, binary64, fits}
use lib.Ieee.Exact.{HasValue}
use Rattle.math.specs.Number.{fmax}
use Rattle.base.specs.Loop.{rounds}
use Rattle.base.proofs.Choices.{by_cases}
use Rattle.base.proofs.Tests.{all_pass}
use Rattle.margins.specs.Far.{over}
use Rattle.ring_measure.specs.Measures.{extent}
use Rattle.ring_measure.proofs.Extents.{Max, fmax_is}
use Rattle.outline.specs.Outlines.{proper}
use Rattle.region.specs.declared.Region.{Region}
use Rattle.region.specs.Regions.{hole_points, hole_count, ring_points, ring_count, extent_step, region_extent}
use Rattle.region.specs.Checks.{proper_step, proper_region}
use Rattle.margin.specs.Margin.{Doubles, RegionDoubles, LargestOfRings, RegionExtentLargest}
use Rattle.margin.proofs.Sizes.{over_is, Sound, proper_sound}
use Rattle.margin.proofs.Extents.{extent_value, extent_largest}

module _ (r : Region) (d : RegionDoubles r) (q : proper_region r ≡ true) where
  -- ---- each ring passes 21

  ring_doubles : (l : ℕ) → Doubles (ring_points r l)
  unfolding ring_points hole_points
  ring_doubles zero k = d.outer k
  ring_doubles (suc l) k = subst (λ (x : Float). T (fits binary64 x)) (sym (get_or-drop (64 * l) r.points k nan)) (d.holes (64 * l + k))

  pub ring_sound : (l : ℕ) → l ≤ r.holes → Sound (ring_points r l) (ring_count r l)
  unfolding proper_region proper_step ring_points ring_count
  ring_sound zero h =
      proper_sound 128 r.outer.points r.outer.count (ring_doubles 0)
      (and_elim_left (proper 128 r.outer.points r.outer.count) (leb r.holes 8 && rounds (proper_step r) r.holes true) q)
  ring_sound (suc l) h =
      proper_sound 32 (hole_points r l) (hole_count r l) (ring_doubles (suc l))
      (all_pass (proper_step r) (λ i. proper 32 (hole_points r i) (hole_count r i)) (λ i s. refl) r.holes
      (and_elim_right (leb r.holes 8) (rounds (proper_step r) r.holes true)
      (and_elim_right (proper 128 r.outer.points r.outer.count) (leb r.holes 8 && rounds (proper_step r) r.holes true) q))
      l (omega arith))

  -- ---- the extent, after k holes

  abbrev extent_at : ℕ → Float
  extent_at l = extent (ring_points r l) (ring_count r l)

  value_at : (l : ℕ) → l ≤ r.holes → HasValue (extent_at l) false (over (extent_at l)) (2 ^ 1074)
  value_at l h = extent_value (ring_points r l) (ring_count r l) (ring_sound l h)

  -- s is the largest extent of the rings 0 to k
  record Extents (k : ℕ) (s : Float) : Type 0 where
    size : ℕ
    value : HasValue s false size (2 ^ 1074)
    most : (l : ℕ) → l ≤ k → over (extent_at l) ≤ size
    ring : ℕ
    held : ring ≤ k
    is : over (extent_at ring) ≡ size

  first_extents : Extents 0 (extent_at 0)
  first_extents =
      record {
        size = over (extent_at 0);
        value = value_at 0 zero-le;
        most = λ l a. subst (λ (j : ℕ). over (extent_at j) ≤ over (extent_at 0)) (none l a) (le_refl (over (extent_at 0)));
        ring = 0;
        held = zero-le;
        is = refl;
      }
    where
      none : (l : ℕ) → l ≤ 0 → 0 ≡ l
      none l h = omega arith

  next_extents : (k : ℕ) (s : Float) → suc k ≤ r.holes → Extents k s → Extents (suc k) (fmax s (extent_at (suc k)))
  next_extents k s h x =
      let E : ℕ = over (extent_at (suc k)) in
      let m : Max (fmax s (extent_at (suc k))) x.size E = fmax_is s (extent_at (suc k)) x.size E x.value (value_at (suc k) h) in
      pick m m.one (λ l a. by_cases l (suc k) (λ e. rw e m.right) (λ e. le_trans (x.most l (omega arith)) m.left))
    where
      wider : (l k : ℕ) → l ≤ k → l ≤ suc k
      wider l k h = omega arith

      pick : (m : Max (fmax s (extent_at (suc k))) x.size (over (extent_at (suc k)))) → (m.most ≡ x.size) ⊎ (m.most ≡ over (extent_at (suc k)))
          → ((l : ℕ) → l ≤ suc k → over (extent_at l) ≤ m.most) → Extents (suc k) (fmax s (extent_at (suc k)))
      pick m (inl e) g = record { size = m.most; value = m.value; most = g; ring = x.ring; held = wider x.ring k x.held; is = x.is ∙ sym e }
      pick m (inr e) g = record { size = m.most; value = m.value; most = g; ring = suc k; held = le_refl (suc k); is = sym e }

  extents_to : (k : ℕ) → k ≤ r.holes → Extents k (rounds (extent_step r) k (extent r.outer.points r.outer.count))
  unfolding rounds extent_step ring_points ring_count
  extents_to zero h = first_extents
  extents_to (suc k) h = next_extents k (rounds (extent_step r) k (extent r.outer.points r.outer.count)) h (extents_to k (omega arith))

  extents_of : Extents r.holes (region_extent r)
  unfolding region_extent
  extents_of = extents_to r.holes (le_refl r.holes)

  -- ---- what is known of it

  size_is : over (region_extent r) ≡ extents_of.size
  size_is = over_is (region_extent r) extents_of.size extents_of.value

  pub region_extent_value : HasValue (region_extent r) false (over (region_extent r)) (2 ^ 1074)
  region_extent_value = subst (λ (a : ℕ). HasValue (region_extent r) false a (2 ^ 1074)) (sym size_is) extents_of.value

  pub region_extent_largest : LargestOfRings r (over (region_extent r))
  region_extent_largest =
      let x = extents_of in
      let y = extent_largest (ring_points r x.ring) (ring_count r x.ring) (ring_sound x.ring x.held) in
      record {
        each = λ l k a b.
            le_trans ((extent_largest (ring_points r l) (ring_count r l) (ring_sound l a)).each k b)
            (le_trans (x.most l a) (le_of_eq (sym size_is)));
        ring = x.ring;
        place = y.place;
        held = x.held;
        within = y.within;
        reached = y.reached ∙ (x.is ∙ sym size_is);
      }

  pub region_extent_small : over (region_extent r) ≤ 1000000000 * 2 ^ 1074
  region_extent_small =
      let x = region_extent_largest in
      le_trans (le_of_eq (sym x.reached)) ((ring_sound x.ring x.held).fine x.place x.within).size

pub region_largest_is : RegionExtentLargest
region_largest_is r d q = region_extent_largest r d q
