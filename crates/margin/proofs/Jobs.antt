-- The margin of a job's answer: it is an outline's inset or a region's, of the numbers drawn. Assumes nothing.
use Prim.Native.Nat.{ℕ, ◌+◌, ◌%◌, ◌<◌}
use native.Mathlib.Omega.{arith}
use mathlib.Core.Path.{◌≡◌, refl, sym, ap, ◌∙◌, subst}
use mathlib.Core.Bool.{Bool, true, false, cond, false≢true}
use mathlib.Core.List.{List}
use borrow.Author.Tests.{eqb-true}
use lib.Dec.{T, eqb}
use lib.ListN.{get_or, length}
use lib.Ieee.{Float, binary64, fits, lt}
use Rattle.error.specs.declared.Refusal.{Refusal}
use Rattle.error.specs.declared.Refusal.TheVariants.{Job, Lengths, Odd}
use Rattle.error.specs.Refusals.{number, values, granted}
use Rattle.math.specs.Number.{zero_float}
use Rattle.base.specs.Loop.{rounds}
use Rattle.base.proofs.Choices.{by_test}
use Rattle.margins.specs.Far.{over}
use Rattle.outline.specs.declared.NewOutline.{NewOutline}
use Rattle.outline.specs.Outlines.{new_outline, check_finite}
use Rattle.offset.specs.Offsets.{offset}
use Rattle.region.specs.declared.Region.{Region}
use Rattle.region.specs.declared.NewRegion.{NewRegion}
use Rattle.region.specs.declared.RegionOffset.{RegionOffset}
use Rattle.region.specs.Regions.{no_region, ring_points, ring_count, with_outer, region_extent}
use Rattle.region.specs.Checks.{load_rings, region_loaded, total_step, total, lengths_fit}
use Rattle.region.proofs.LengthsFit.{some_ring}
use Rattle.region.specs.Insets.{region_inset}
use Rattle.region.proofs.Loaded.{region_again}
use Rattle.job.specs.Jobs.{job_refused, as_region, job_outline, job_region, job_rings, job_finite, job_numbers, job}
use Rattle.format.specs.JobLines.{side_fits}
use Rattle.margin.specs.Margin.{Doubles, RingFar, Largest}
use Rattle.margin.specs.Lent.{ring_in}
use Rattle.margin.specs.Drawn.{DrawnMargin, DrawnRings}
use Rattle.margin.specs.Jobs.{JobMargin}
use Rattle.margin.proofs.RegionExtents.{region_largest_is}
use Rattle.margin.proofs.Regions.{inset_margin}
use Rattle.margin.proofs.Drawn.{new_outline_margin}
use Rattle.margin.proofs.DrawnRings.{RegionStands, rings_stand, drawn_rings}

-- ---- a granted job is answered yes by 22, 1, 2 and 3

pub record Asked (s n f l : Bool) (x a : RegionOffset) : Type 0 where
  pub fit : granted a.refusal ≡ true → l ≡ true
  pub is : granted a.refusal ≡ true → a ≡ x

refused_none : (s n f l : Bool) (x : RegionOffset) (u : Refusal) → granted u ≡ false → Asked s n f l x (job_refused u)
unfolding job_refused
refused_none s n f l x u h = record { fit = λ q. absurd (false≢true (sym h ∙ q)); is = λ q. absurd (false≢true (sym h ∙ q)) }

pub asked : (s n f l : Bool) (x : RegionOffset) (r : Refusal) → granted r ≡ f
    → Asked s n f l x (cond s (cond n (cond f (cond l x (job_refused Lengths)) (job_refused r)) (job_refused Odd)) (job_refused Job))
unfolding granted number values
asked true true true true x r e = record { fit = λ q. refl; is = λ q. refl }
asked true true true false x r e = refused_none true true true false x Lengths refl
asked true true false l x r e = refused_none true true false l x r e
asked true false f l x r e = refused_none true false f l x Odd refl
asked false n f l x r e = refused_none false n f l x Job refl

module _ (d : Float) (lengths : List ℕ) (ps : List Float) (pd : Doubles ps) (fd : T (fits binary64 d)) (l : lt zero_float d ≡ true) where
  -- the answer a keeps the margin if it is granted
  record Keeps (a : RegionOffset) : Type 0 where
    keeps : granted a.refusal ≡ true → DrawnRings d lengths ps (a.shape.holes + 1) (ring_points a.shape) (ring_count a.shape)

  refused_keeps : (u : Refusal) → granted u ≡ false → Keeps (job_refused u)
  unfolding job_refused
  refused_keeps u h = record { keeps = λ q. absurd (false≢true (sym h ∙ q)) }

  -- ---- one ring

  one_ring : (q : Region) → q.holes ≡ 0 → length lengths ≡ 1 → DrawnMargin d ps (get_or lengths 0 0) (ring_points q 0) (ring_count q 0)
      → DrawnRings d lengths ps (q.holes + 1) (ring_points q) (ring_count q)
  unfolding total total_step ring_in rounds
  one_ring q none one m = record {
    most = m.most;
    largest = subst (λ (n : ℕ). Largest ps n m.most) (sym (ap (λ (n : ℕ). rounds (total_step lengths) n 0) one ∙ omega arith)) m.largest;
    far = λ k i z y. first k i (omega (arith, none)) (omega arith);
  }
    where
      first : (k i : ℕ) → k ≡ 0 → i ≡ 0 → RingFar (over d) m.most (ring_points q k) (ring_count q k) (ring_in lengths ps i) (get_or lengths i 0)
      first k i e f = rw (e, f) m.far

  outline_keeps : length lengths ≡ 1 → Keeps (job_outline false d (new_outline ps (get_or lengths 0 0)))
  unfolding job_outline as_region with_outer no_region ring_points ring_count
  outline_keeps one =
      let n : ℕ = get_or lengths 0 0 in
      let o : NewOutline = new_outline ps n in
      by_test Keeps (granted o.refusal)
      (λ g. record { keeps = λ q. one_ring (with_outer no_region (offset o.shape false d).shape) refl one (new_outline_margin ps n d pd fd g q l) })
      (λ g. refused_keeps o.refusal g)

  -- ---- more

  region_keeps : 0 < length lengths → Keeps (job_region d (region_loaded (load_rings lengths ps)))
  unfolding job_region
  region_keeps some =
      let a : NewRegion = region_loaded (load_rings lengths ps) in
      let r : Region = a.shape in
      let q : Region = (region_inset r d).shape in
      by_test Keeps (granted a.refusal)
      (λ g.
      let s : RegionStands lengths ps r = rings_stand lengths ps some g in
      record {
        keeps = λ h. drawn_rings lengths ps r s (over (region_extent r)) pd (region_largest_is r (s.doubles pd) ((region_again.rings lengths ps).proper g)) d (q.holes + 1) (ring_points q) (ring_count q)
            (λ k i z y. inset_margin r d (s.doubles pd) fd h l k i (omega arith) y);
      })
      (λ g. refused_keeps a.refusal g)

  rings_keep : lengths_fit lengths ps ≡ true → Keeps (job_rings false d lengths ps)
  unfolding job_rings
  rings_keep fit =
      by_test Keeps (eqb (length lengths) 1) (λ e. outline_keeps (eqb-true (length lengths) 1 e))
      (λ e. region_keeps (some_ring lengths ps fit))

  job_keeps : Keeps (job false d lengths ps)
  unfolding job job_numbers job_finite
  job_keeps =
      let x : RegionOffset = job_rings false d lengths ps in
      let h = asked (side_fits false (length lengths)) (eqb (length ps % 2) 0) (granted (check_finite ps)) (lengths_fit lengths ps) x (check_finite ps) refl in
      record { keeps = λ q. subst (λ (a : RegionOffset). granted a.refusal ≡ true → DrawnRings d lengths ps (a.shape.holes + 1) (ring_points a.shape) (ring_count a.shape)) (sym (h.is q)) (rings_keep (h.fit q)).keeps q }

pub job_margin : JobMargin
job_margin d lengths ps pd fd g l = (job_keeps d lengths ps pd fd l).keeps g
