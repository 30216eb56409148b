-- Ring after ring: question 21 of one hole more, and one hole more as it is. Assumes nothing.
use Prim.Native.Nat.{ℕ, ◌+◌, ◌-◌, ◌*◌, ◌≤◌, ◌<◌}
use mathlib.Core.Path.{◌≡◌, refl, sym, ap, ◌∙◌}
use native.Mathlib.Omega.{arith}
use mathlib.Core.Bool.{Bool, true, false, cond, not}
use mathlib.Core.List.{List}
use borrow.Author.Tests.{not-true, not-false, lt-ltb, le-ltb}
use lib.Dec.{ltb}
use lib.ListN.{length, get_or, set, drop, replicate}
use lib.Ieee.{Float}
use Rattle.math.specs.Number.{zero_float}
use Rattle.base.specs.Loop.{rounds}
use Rattle.base.proofs.Laws.{next_round, ends}
use Rattle.base.proofs.Tests.{tests_on, test_fails, tests_end}
use Rattle.plane.specs.declared.PlanarPoint.{PlanarPoint}
use Rattle.ring.specs.Ring.{vertex_at, source, stored_at}
use Rattle.ring.specs.Store.{stored}
use Rattle.ring.proofs.Storing.{stored_length}
use Rattle.outline.specs.declared.Outline.{Outline}
use Rattle.outline.specs.Outlines.{proper, stored_outline}
use Rattle.region.specs.declared.Region.{Region}
use Rattle.region.specs.Regions.{no_region, with_outer, store_hole, count_hole, with_hole}
use Rattle.region_load.proofs.Sums.{sum_of}
use Rattle.region_load.proofs.Stores.{hole_more}
use Rattle.region_stored.specs.Stored.{ring_from, proper_holes_step, proper_holes, rings_step, rings}

-- what is stored so far
abbrev pub region_at : Outline → List Float → List ℕ → ℕ → Region
region_at o points counts k = record { outer = o; points = points; counts = counts; holes = k }

module _ (lengths : List ℕ) (ps : List Float) where
  -- 21 of hole k
  abbrev pub passes : ℕ → Bool
  passes k = proper 32 (ring_from lengths ps (k + 1)) (get_or lengths (k + 1) 0)

  abbrev pub passing : ℕ → Bool
  passing k = rounds (proper_holes_step lengths ps) k true

  abbrev pub outer : Outline
  outer = stored_outline ps (get_or lengths 0 0) false

  abbrev pub keeping : ℕ → Region
  keeping k = rounds (rings_step lengths ps) k (with_outer no_region outer)

  pub none_kept : (o : Outline) (n : ℕ) → n ≡ get_or lengths 0 0 → o ≡ stored_outline ps n false → keeping 0 ≡ region_at o (replicate 512 zero_float) (replicate 8 0) 0
  unfolding rounds with_outer no_region
  none_kept o n e f = rw (f, e) refl

  module _ (k start n : ℕ) (es : start ≡ sum_of lengths (k + 1)) (en : n ≡ get_or lengths (k + 1) 0) (part : List Float) (ep : part ≡ drop (2 * start) ps) where
    part_is : part ≡ ring_from lengths ps (k + 1)
    unfolding ring_from
    part_is = ep ∙ ap (λ (s : ℕ). drop (2 * s) ps) es

    told : (r : Bool) → r ≡ proper 32 part n → r ≡ passes k
    told r e = e ∙ ap (λ (l : List Float). proper 32 l n) part_is ∙ ap (proper 32 (ring_from lengths ps (k + 1))) en

    module _ (all : passing k ≡ true) (r : Bool) (e : r ≡ proper 32 part n) where
      pub hole_passes : not r ≡ false → passing (k + 1) ≡ true
      unfolding proper_holes_step
      hole_passes h = tests_on (proper_holes_step lengths ps) passes (λ (j : ℕ) (s : Bool). refl) k k all (sym (told r e) ∙ not-false r h)

      pub hole_fails : k < length lengths - 1 → not r ≡ true → false ≡ proper_holes lengths ps
      unfolding proper_holes_step proper_holes
      hole_fails l h = sym (test_fails (proper_holes_step lengths ps) passes (λ (j : ℕ) (s : Bool). refl) (length lengths - 1) k all l (sym (told r e) ∙ not-true r h))

    module _ (o : Outline) (points : List Float) (counts : List ℕ) (so_far : keeping k ≡ region_at o points counts k) where
      pub hole_kept : (p : List Float) (d : List ℕ) → p ≡ cond (ltb k 8) (stored part n false (32 * k) points) points → d ≡ cond (ltb k 8) (set counts k n) counts
          → keeping (k + 1) ≡ region_at o p d (k + 1)
      unfolding rings_step with_hole store_hole count_hole
      hole_kept p d e f =
          next_round (rings_step lengths ps) k (with_outer no_region outer) ∙
          rw (so_far, e, f, ← part_is, ← en)
          (sym (hole_more (ltb k 8) o (stored part n false (32 * k) points) points (set counts k n) counts (k + 1)))

  module _ (k : ℕ) (l : k ≤ length lengths - 1) (h : length lengths - 1 ≤ k) where
    pub holes_pass : passing k ≡ true → true ≡ proper_holes lengths ps
    unfolding proper_holes_step proper_holes
    holes_pass all = sym (tests_end (proper_holes_step lengths ps) passes (λ (j : ℕ) (s : Bool). refl) (length lengths - 1) k all l h)

  pub all_kept : (o : Outline) (points : List Float) (counts : List ℕ) (k : ℕ) → keeping k ≡ region_at o points counts k → (last : ℕ) → last ≡ length lengths - 1 → k ≤ last → last ≤ k
      → region_at o points counts last ≡ rings lengths ps
  unfolding rings
  all_kept o points counts k e last q l h =
      let at : last ≡ k = omega arith in
      ap (region_at o points counts) at ∙
      ends (rings_step lengths ps) (with_outer no_region outer) (region_at o points counts k) k (length lengths - 1) (omega arith) (omega arith) (sym e)
