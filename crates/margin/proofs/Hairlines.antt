-- No ring that is accepted has a hairline. Assumes nothing.
use Prim.Native.Nat.{ℕ, suc, ◌+◌, ◌-◌, ◌*◌, ◌/◌, ◌%◌, ◌≤◌, ◌<◌}
use mathlib.Core.Path.{◌≡◌, refl, sym, ap, ◌∙◌, subst}
use mathlib.Core.Bool.{Bool, true, false, cond, false≢true}
use mathlib.Core.List.{List}
use native.Mathlib.Omega.{arith}
use borrow.Author.Tests.{eqb-true}
use lib.Dec.{eqb}
use lib.ListN.{get_or, drop, length}
use lib.Ieee.{Float}
use Rattle.base.specs.Loop.{rounds}
use Rattle.base.proofs.Laws.{rounds_keep}
use Rattle.base.proofs.Choices.{by_test, by_cases}
use Rattle.error.specs.declared.Refusal.{Refusal}
use Rattle.error.specs.Refusals.{granted}
use Rattle.ring_check.specs.Checks.{short_edge, check_door}
use Rattle.ring_check.proofs.Sound.{check_sound}
use Rattle.ring_check.proofs.Door.{door_tells}
use Rattle.outline.specs.declared.NewOutline.{NewOutline}
use Rattle.outline.specs.Outlines.{outline_of, outline_refused, new_outline, check_finite}
use Rattle.region.specs.declared.RegionLoad.{RegionLoad}
use Rattle.region.specs.declared.NewRegion.{NewRegion}
use Rattle.region.specs.declared.RegionOffset.{RegionOffset}
use Rattle.region.specs.Checks.{rings_refused, hole_loaded, hole_load_step, outer_loaded, load_rings, region_loaded, region_refused, region_if, check_region, lengths_fit}
use Rattle.format.specs.JobLines.{side_fits}
use Rattle.job.specs.Jobs.{job_refused, job_outline, job_region, job_rings, job_finite, job_numbers, job}
use Rattle.margin.specs.Lent.{ring_in}
use Rattle.margin.specs.Hairlines.{NoHairline, OutlineNoHairline, RegionNoHairline, JobNoHairline}
use Rattle.margin.proofs.Drawn.{outline_is}
use Rattle.margin.proofs.Jobs.{asked}
use Rattle.margin.proofs.DrawnRings.{LoadedTo, Loading, outer_loading, step_loading, qs_is, n_is, region_is}

-- what the door grants has none
door_none : (room ring : ℕ) (ps : List Float) (n : ℕ) → granted (check_door room ring ps n).refusal ≡ true → NoHairline ps n
door_none room ring ps n g =
    subst (λ (m : ℕ). (k : ℕ) → k < m → short_edge ps m k ≡ false) (check_sound true room ring ps n g).left (door_tells.clear room ring ps n g)

record OutlineNone (ps : List Float) (n : ℕ) (a : NewOutline) : Type 0 where
  none : granted a.refusal ≡ true → NoHairline ps n

new_none : (ps : List Float) (n : ℕ) → OutlineNone ps n (new_outline ps n)
unfolding new_outline outline_of outline_refused
new_none ps n =
    by_test (OutlineNone ps n) (granted (check_door 128 0 ps n).refusal) (λ g. record { none = λ q. door_none 128 0 ps n g })
    (λ g. record { none = λ q. absurd (false≢true (sym g ∙ q)) })

pub outline_no_hairline : OutlineNoHairline
outline_no_hairline ps g =
    subst (λ (a : NewOutline). granted a.refusal ≡ true → NoHairline ps (length ps / 2)) (sym ((outline_is ps).is g)) (new_none ps (length ps / 2)).none g

-- ---- ring by ring

module _ (lengths : List ℕ) (ps : List Float) where
  abbrev None : ℕ → Type 0
  None l = NoHairline (ring_in lengths ps l) (get_or lengths l 0)

  record Told (k : ℕ) (s : RegionLoad) : Type 0 where
    told : granted s.refusal ≡ true → None k

  outer_none : Told 0 (outer_loaded ps (get_or lengths 0 0) (check_door 128 0 ps (get_or lengths 0 0)))
  unfolding outer_loaded ring_in rounds
  outer_none =
      let n : ℕ = get_or lengths 0 0 in
      by_test (Told 0) (granted (check_door 128 0 ps n).refusal) (λ g. record { told = λ q. door_none 128 0 ps n g })
      (λ g. record { told = λ q. absurd (false≢true (sym g ∙ q)) })

  hole_none : (k : ℕ) (s : RegionLoad) (h : LoadedTo lengths ps k s)
      → Told (suc k) (hole_loaded s (drop (2 * s.start) ps) (get_or lengths (k + 1) 0) (check_door 32 (k + 1) (drop (2 * s.start) ps) (get_or lengths (k + 1) 0)))
  unfolding hole_loaded rings_refused
  hole_none k s h =
      let qs : List Float = drop (2 * s.start) ps in
      let n : ℕ = get_or lengths (k + 1) 0 in
      by_test (Told (suc k)) (granted (check_door 32 (k + 1) qs n).refusal)
      (λ g. record { told = λ q. subst (λ (m : ℕ). NoHairline (ring_in lengths ps (suc k)) m) (n_is lengths ps k s h) (subst (λ (x : List Float). NoHairline x n) (qs_is lengths ps k s h) (door_none 32 (k + 1) qs n g)) })
      (λ g. record { told = λ q. absurd (false≢true (sym g ∙ q)) })

  record Each (k : ℕ) (s : RegionLoad) : Type 0 where
    each : granted s.refusal ≡ true → (l : ℕ) → l ≤ k → None l

  step_each : (k : ℕ) (s : RegionLoad) → Loading lengths ps k s → Each k s → Each (suc k) (hole_load_step lengths ps k s)
  unfolding hole_load_step
  step_each k s load h =
      by_test (Each (suc k)) (granted s.refusal)
      (λ g. record { each = λ q l z. by_cases l (suc k) (λ e. rw e ((hole_none k s (load.loaded g)).told q)) (λ e. h.each g l (omega arith)) })
      (λ g. record { each = λ q. absurd (false≢true (sym g ∙ q)) })

  record Both (k : ℕ) (s : RegionLoad) : Type 0 where
    loading : Loading lengths ps k s
    none : Each k s

  rings_none : granted (load_rings lengths ps).refusal ≡ true → (l : ℕ) → l ≤ length lengths - 1 → None l
  unfolding load_rings
  rings_none =
      (rounds_keep (hole_load_step lengths ps) Both (outer_loaded ps (get_or lengths 0 0) (check_door 128 0 ps (get_or lengths 0 0)))
      (record { loading = outer_loading lengths ps; none = record { each = λ q l z. rw (zero_below l z) (outer_none.told q) } })
      (λ k s h. record { loading = step_loading lengths ps k s h.loading; none = step_each k s h.loading h.none })
      (length lengths - 1)).none.each
    where
      zero_below : (l : ℕ) → l ≤ 0 → l ≡ 0
      zero_below l z = omega arith

  -- a region that is granted was loaded
  loaded_none : granted (region_loaded (load_rings lengths ps)).refusal ≡ true → granted (load_rings lengths ps).refusal ≡ true
  unfolding region_loaded region_refused
  loaded_none q = go (load_rings lengths ps) (granted (load_rings lengths ps).refusal) refl q
    where
      go : (s : RegionLoad) (b : Bool) → granted s.refusal ≡ b
          → granted (cond b (region_if s.shape (check_region s.shape)) (region_refused s.refusal)).refusal ≡ true → b ≡ true
      go s true e q = refl
      go s false e q = absurd (false≢true (sym e ∙ q))

pub region_no_hairline : RegionNoHairline
region_no_hairline lengths ps g l z =
    rings_none lengths ps (loaded_none lengths ps (ap (λ (a : NewRegion). granted a.refusal) ((region_is lengths ps).is g) ∙ g)) l (omega arith)

-- ---- a job's rings

module _ (outward : Bool) (d : Float) (lengths : List ℕ) (ps : List Float) where
  record Rings (a : RegionOffset) : Type 0 where
    rings : granted a.refusal ≡ true → (l : ℕ) → l < length lengths → NoHairline (ring_in lengths ps l) (get_or lengths l 0)

  refused_rings : (u : Refusal) → granted u ≡ false → Rings (job_refused u)
  unfolding job_refused
  refused_rings u h = record { rings = λ q. absurd (false≢true (sym h ∙ q)) }

  one_ring : length lengths ≡ 1 → Rings (job_outline outward d (new_outline ps (get_or lengths 0 0)))
  unfolding job_outline ring_in rounds
  one_ring one =
      let n : ℕ = get_or lengths 0 0 in
      let o : NewOutline = new_outline ps n in
      by_test Rings (granted o.refusal) (λ g. record { rings = λ q l z. first ((new_none ps n).none g) l (omega (arith, one)) })
      (λ g. refused_rings o.refusal g)
    where
      first : NoHairline ps (get_or lengths 0 0) → (l : ℕ) → l ≡ 0 → NoHairline (ring_in lengths ps l) (get_or lengths l 0)
      first h l e = rw e h

  more_rings : Rings (job_region d (region_loaded (load_rings lengths ps)))
  unfolding job_region
  more_rings =
      let a : NewRegion = region_loaded (load_rings lengths ps) in
      by_test Rings (granted a.refusal) (λ g. record { rings = λ q l z. rings_none lengths ps (loaded_none lengths ps g) l (omega arith) })
      (λ g. refused_rings a.refusal g)

  each_ring : Rings (job_rings outward d lengths ps)
  unfolding job_rings
  each_ring = by_test Rings (eqb (length lengths) 1) (λ e. one_ring (eqb-true (length lengths) 1 e)) (λ e. more_rings)

  job_none : Rings (job outward d lengths ps)
  unfolding job job_numbers job_finite
  job_none =
      let x : RegionOffset = job_rings outward d lengths ps in
      let h = asked (side_fits outward (length lengths)) (eqb (length ps % 2) 0) (granted (check_finite ps)) (lengths_fit lengths ps) x (check_finite ps) refl in
      record { rings = λ q. each_ring.rings (ap (λ (a : RegionOffset). granted a.refusal) (sym (h.is q)) ∙ q) }

pub job_no_hairline : JobNoHairline
job_no_hairline outward d lengths ps = (job_none outward d lengths ps).rings
