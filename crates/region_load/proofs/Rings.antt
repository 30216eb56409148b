-- One ring after the other: a hole more, the first refusal, the last ring. Assumes nothing.
use Prim.Native.Nat.{ℕ, ◌+◌, ◌-◌, ◌*◌, ◌≤◌, ◌<◌}
use native.Mathlib.Omega.{arith}
use mathlib.Core.Path.{◌≡◌, refl, sym, ap, ◌∙◌}
use mathlib.Core.Bool.{Bool, true, false, cond, true≢false}
use mathlib.Core.List.{List}
use lib.Dec.{ltb}
use lib.ListN.{length, get_or, set, drop, replicate}
use lib.Ieee.{Float}
use Rattle.math.specs.Number.{zero_float}
use Rattle.error.specs.declared.Refusal.TheVariants.{Granted}
use Rattle.error.specs.Refusals.{values, number, granted}
use Rattle.error.proofs.Laws.{granted_is}
use Rattle.ring_check.specs.declared.Checked.{Checked}
use Rattle.outline.specs.declared.Outline.{Outline}
use Rattle.outline.specs.declared.NewOutline.{NewOutline}
use Rattle.region.specs.declared.Region.{Region}
use Rattle.region.specs.declared.RegionLoad.{RegionLoad}
use Rattle.base.specs.Loop.{rounds}
use Rattle.base.proofs.Laws.{next_round, stays_to, still, ends}
use Rattle.ring.specs.Store.{stored}
use Rattle.ring_check.specs.Checks.{check_door}
use Rattle.outline.specs.Outlines.{no_outline, stored_outline, outline_refused, outline_of, new_outline}
use Rattle.region.specs.Regions.{no_region, with_outer, store_hole, count_hole, with_hole}
use Rattle.region.specs.Checks.{rings_refused, hole_loaded, hole_load_step, outer_loaded, load_rings}
use Rattle.region_load.specs.Loads.{loaded, no_load, outer_alone, load_holes}
use Rattle.region_load.proofs.Stores.{hole_more}

-- ---- a hole more
module _ (lengths : List ℕ) (ps : List Float) (o : Outline) where
  abbrev pub loading : ℕ → RegionLoad
  loading k = rounds (hole_load_step lengths ps) k (outer_alone o (get_or lengths 0 0))

  pub none_loaded : (n : ℕ) → n ≡ get_or lengths 0 0 → loading 0 ≡ loaded Granted o (replicate 512 zero_float) (replicate 8 0) 0 n
  unfolding loaded rounds outer_alone with_outer no_region
  none_loaded n e = rw e refl

  module _ (points : List Float) (counts : List ℕ) (k start : ℕ) (so_far : loading k ≡ loaded Granted o points counts k start) where
    module _ (n : ℕ) (en : n ≡ get_or lengths (k + 1) 0) (part : List Float) (ep : part ≡ drop (2 * start) ps) (c : Checked) (ec : c ≡ check_door 32 (k + 1) part n) where
      step : loading (k + 1) ≡ hole_loaded (loaded Granted o points counts k start) part n c
      unfolding loaded hole_load_step granted number values
      step = next_round (hole_load_step lengths ps) k (outer_alone o (get_or lengths 0 0)) ∙ rw (so_far, ec, ep, en) refl

      pub ring_loaded : (p : List Float) (d : List ℕ) → granted c.refusal ≡ true
          → p ≡ cond (ltb k 8) (stored part c.count c.back (32 * k) points) points → d ≡ cond (ltb k 8) (set counts k c.count) counts
          → loading (k + 1) ≡ loaded Granted o p d (k + 1) (start + n)
      unfolding loaded hole_loaded with_hole store_hole count_hole
      ring_loaded p d g e f =
          step ∙
          rw (g, e, f)
          (sym (ap (λ (r : Region). record { refusal = Granted; shape = r; start = start + n }) (hole_more (ltb k 8) o (stored part c.count c.back (32 * k) points) points (set counts k c.count) counts (k + 1))))

      pub ring_refused : (none : Outline) → none ≡ no_outline → k < length lengths - 1 → granted c.refusal ≡ false
          → loaded c.refusal none (replicate 512 zero_float) (replicate 8 0) 0 start ≡ load_holes lengths ps o
      unfolding loaded hole_loaded rings_refused load_holes hole_load_step no_region
      ring_refused none e l g =
          rw e
          (sym
          (stays_to (hole_load_step lengths ps) (outer_alone o (get_or lengths 0 0)) (loaded c.refusal no_outline (replicate 512 zero_float) (replicate 8 0) 0 start) (k + 1) (length lengths - 1)
          (omega arith) (step ∙ rw g refl) (λ (j : ℕ). rw g refl)))

    pub all_loaded : (last : ℕ) → last ≡ length lengths - 1 → k ≤ last → last ≤ k → loaded Granted o points counts last start ≡ load_holes lengths ps o
    unfolding load_holes
    all_loaded last e l h =
        let at : last ≡ k = omega arith in
        ap (λ (m : ℕ). loaded Granted o points counts m start) at ∙
        ends (hole_load_step lengths ps) (outer_alone o (get_or lengths 0 0)) (loaded Granted o points counts k start) k (length lengths - 1) (omega arith) (omega arith) (sym so_far)

-- ---- the outer ring
not_taken : (b : Bool) (x y : NewOutline) → granted x.refusal ≡ true → granted (cond b x y).refusal ≡ false → b ≡ false
not_taken true x y h g = absurd (true≢false (sym h ∙ g))
not_taken false x y h g = refl

module _ (lengths : List ℕ) (ps : List Float) (n : ℕ) (en : n ≡ get_or lengths 0 0) (o : NewOutline) (eo : o ≡ new_outline ps n) where
  outer_told : (c : Checked) (b : Bool) → b ≡ granted c.refusal → outer_loaded ps n c ≡ record { refusal = (outline_of ps c).refusal; shape = with_outer no_region (outline_of ps c).shape; start = n }
  unfolding outer_loaded outline_of outline_refused with_outer no_region
  outer_told c true h = rw (← h) refl
  outer_told c false h = rw (← h) refl

  outer_is : outer_loaded ps n (check_door 128 0 ps n) ≡ record { refusal = o.refusal; shape = with_outer no_region o.shape; start = n }
  unfolding new_outline
  outer_is = rw eo (outer_told (check_door 128 0 ps n) (granted (check_door 128 0 ps n).refusal) refl)

  pub outer_passed : granted o.refusal ≡ true → load_holes lengths ps o.shape ≡ load_rings lengths ps
  unfolding load_holes load_rings outer_alone
  outer_passed g = rw (← en, outer_is, granted_is o.refusal g) refl

  told_refused : (c : Checked) → granted (outline_of ps c).refusal ≡ false → outer_loaded ps n c ≡ no_load (outline_of ps c).refusal n
  unfolding outer_loaded outline_of outline_refused no_load granted number values
  told_refused c g =
      let h : granted c.refusal ≡ false = not_taken (granted c.refusal) (record { refusal = Granted; shape = stored_outline ps c.count c.back }) (outline_refused c.refusal) refl g in
      rw h refl

  outer_none : granted o.refusal ≡ false → outer_loaded ps n (check_door 128 0 ps n) ≡ no_load o.refusal n
  unfolding new_outline
  outer_none g = rw eo (told_refused (check_door 128 0 ps n) (ap (λ (z : NewOutline). granted z.refusal) (sym eo) ∙ g))

  pub outer_refused : granted o.refusal ≡ false → no_load o.refusal n ≡ load_rings lengths ps
  unfolding load_rings no_load hole_load_step
  outer_refused g = rw (← en, outer_none g) (sym (still (hole_load_step lengths ps) (no_load o.refusal n) (λ (j : ℕ). rw g refl) (length lengths - 1)))
