-- The counts of a job's answer are those of the offset that it comes to, and 0 where it comes to none. Assumes nothing.
use Prim.Native.Nat.{ℕ, ◌/◌, ◌%◌}
use native.Mathlib.Omega.{arith}
use mathlib.Core.Bool.{Bool, true, false, cond, ◌&&◌, false≢true}
use mathlib.Mathlib.Data.Bool.Basic.{and_elim_left, and_elim_right}
use mathlib.Core.Path.{◌≡◌, refl, sym, ap, ◌∙◌, subst}
use mathlib.Core.List.{List}
use lib.Dec.{eqb}
use lib.ListN.{get_or, length}
use lib.Ieee.{Float}
use borrow.Author.Tests.{eqb-true}
use Rattle.error.specs.declared.Refusal.{Refusal}
use Rattle.error.specs.declared.Refusal.TheVariants.{Job, Lengths, Odd}
use Rattle.outline.specs.declared.NewOutline.{NewOutline}
use Rattle.region.specs.declared.NewRegion.{NewRegion}
use Rattle.region.specs.declared.RegionOffset.{RegionOffset}
use Rattle.error.specs.Refusals.{granted}
use Rattle.base.specs.Loop.{rounds}
use Rattle.outline.specs.Outlines.{proper, new_outline, check_finite, outline_if, outline}
use Rattle.outline.proofs.Outlines.{outline_proper}
use Rattle.offset.proofs.DemandAnswered.{offset_demand}
use Rattle.offset.proofs.Counted.{offset_counts}
use Rattle.region.specs.Checks.{load_rings, region_loaded, total_step, total, region_finite, region, proper_region, lengths_fit}
use Rattle.region.proofs.LengthsFit.{all_numbers}
use Rattle.region.proofs.Loaded.{region_again}
use Rattle.region.proofs.DemandAnswered.{inset_demand}
use Rattle.region.proofs.Counted.{inset_counts}
use Rattle.job.specs.Jobs.{job_refused, as_region, job_outline, job_region, job_rings, job_finite, job_numbers, job}
use Rattle.format.specs.JobLines.{side_fits}
use Rattle.job.specs.Counted.{rings_asked, Idle, OutlineJob, RegionJob, JobsCounted}

plain : (u : Refusal) → Idle (job_refused u)
unfolding job_refused
plain u = record { collapses = refl; divides = refl; joins = refl }

-- ---- what 22, 1, 2 or 3 refuses

unasked : (s n f l : Bool) (x : RegionOffset) (r : Refusal) → (s && (n && (f && l))) ≡ false
    → Idle (cond s (cond n (cond f (cond l x (job_refused Lengths)) (job_refused r)) (job_refused Odd)) (job_refused Job))
unasked true true true true x r q = absurd (false≢true (sym q))
unasked true true true false x r q = plain Lengths
unasked true true false l x r q = plain r
unasked true false f l x r q = plain Odd
unasked false n f l x r q = plain Job

-- ---- an outline

outline_job : (outward : Bool) (d : Float) (o : NewOutline) → (granted o.refusal ≡ true → proper 128 o.shape.points o.shape.count ≡ true)
    → OutlineJob outward d o (job_outline outward d o)
unfolding job_outline as_region
outline_job outward d o p = record {
  passed = λ g. rw g (record { bounds = offset_demand o.shape outward d (p g); counted = (offset_counts o.shape outward d).passed (p g) });
  refused = λ g. rw g (plain o.refusal);
}

region_job : (d : Float) (r : NewRegion) → (granted r.refusal ≡ true → proper_region r.shape ≡ true) → RegionJob d r (job_region d r)
unfolding job_region
region_job d r p = record {
  passed = λ g. rw g (record { bounds = inset_demand r.shape d (p g); counted = (inset_counts r.shape d).passed (p g) });
  refused = λ g. rw g (plain r.refusal);
}

module _ (outward : Bool) (d : Float) (lengths : List ℕ) (ps : List Float) where
  none : rings_asked outward lengths ps ≡ false → Idle (job outward d lengths ps)
  unfolding job job_numbers job_finite
  none q =
      unasked (side_fits outward (length lengths)) (eqb (length ps % 2) 0) (granted (check_finite ps)) (lengths_fit lengths ps) (job_rings outward d lengths ps)
      (check_finite ps) q

  module _ (q : rings_asked outward lengths ps ≡ true) where
    abbrev rest : Bool
    rest = granted (check_finite ps) && lengths_fit lengths ps

    side : side_fits outward (length lengths) ≡ true
    side = and_elim_left (side_fits outward (length lengths)) (eqb (length ps % 2) 0 && rest) q

    even : eqb (length ps % 2) 0 ≡ true
    even = and_elim_left (eqb (length ps % 2) 0) rest (and_elim_right (side_fits outward (length lengths)) (eqb (length ps % 2) 0 && rest) q)

    rests : rest ≡ true
    rests = and_elim_right (eqb (length ps % 2) 0) rest (and_elim_right (side_fits outward (length lengths)) (eqb (length ps % 2) 0 && rest) q)

    all : granted (check_finite ps) ≡ true
    all = and_elim_left (granted (check_finite ps)) (lengths_fit lengths ps) rests

    fit : lengths_fit lengths ps ≡ true
    fit = and_elim_right (granted (check_finite ps)) (lengths_fit lengths ps) rests

    job_is : job outward d lengths ps ≡ job_rings outward d lengths ps
    unfolding job job_numbers job_finite
    job_is = rw (side, even, all, fit) refl

    region_is : region lengths ps ≡ region_loaded (load_rings lengths ps)
    unfolding region region_finite
    region_is = rw (even, all, fit) refl

    pub more : eqb (length lengths) 1 ≡ false → RegionJob d (region_loaded (load_rings lengths ps)) (job outward d lengths ps)
    unfolding job_rings
    more l =
        let r : NewRegion = region_loaded (load_rings lengths ps) in
        subst (RegionJob d r) (sym (job_is ∙ ap (λ (b : Bool). cond b (job_outline outward d (new_outline ps (get_or lengths 0 0))) (job_region d r)) l))
        (region_job d r (λ g. subst (λ (x : NewRegion). granted x.refusal ≡ true → proper_region x.shape ≡ true) region_is (region_again.loaded lengths ps).proper g))

    module _ (l : eqb (length lengths) 1 ≡ true) where
      sum : total lengths ≡ get_or lengths 0 0
      unfolding total total_step rounds
      sum = ap (λ (n : ℕ). rounds (total_step lengths) n 0) (eqb-true (length lengths) 1 l) ∙ omega arith

      half : length ps / 2 ≡ get_or lengths 0 0
      half = omega (arith, sum, all_numbers lengths ps fit)

      outline_is : outline ps ≡ new_outline ps (get_or lengths 0 0)
      unfolding outline outline_if
      outline_is = rw (even, all, half) refl

      pub one : OutlineJob outward d (new_outline ps (get_or lengths 0 0)) (job outward d lengths ps)
      unfolding job_rings
      one =
          let o : NewOutline = new_outline ps (get_or lengths 0 0) in
          subst (OutlineJob outward d o) (sym (job_is ∙ ap (λ (b : Bool). cond b (job_outline outward d o) (job_region d (region_loaded (load_rings lengths ps)))) l))
          (outline_job outward d o (λ g. subst (λ (x : NewOutline). granted x.refusal ≡ true → proper 128 x.shape.points x.shape.count ≡ true) outline_is (outline_proper ps) g))

pub jobs_counted : JobsCounted
jobs_counted outward d lengths ps = record { one = one outward d lengths ps; more = more outward d lengths ps; none = none outward d lengths ps }
