-- The branches of a job, by its definition. Assumes nothing.
use Prim.Native.Nat.{ℕ, ◌%◌}
use mathlib.Core.Bool.{Bool, true, false, cond, not, ◌&&◌, ◌||◌}
use mathlib.Core.Path.{◌≡◌, refl, sym, ap, ◌∙◌}
use mathlib.Core.List.{List}
use lib.Dec.{eqb}
use lib.ListN.{get_or, length}
use lib.Ieee.{Float}
use borrow.Author.Tests.{eq-eqb, ne_eqb}
use Rattle.base.proofs.Choices.{yes, no}
use Rattle.error.specs.declared.Refusal.{Refusal}
use Rattle.error.specs.declared.Refusal.TheVariants.{Job, Lengths, Odd}
use Rattle.outline.specs.declared.NewOutline.{NewOutline}
use Rattle.region.specs.declared.NewRegion.{NewRegion}
use Rattle.region.specs.declared.Region.{Region}
use Rattle.region.specs.declared.RegionLoad.{RegionLoad}
use Rattle.region.specs.declared.RegionOffset.{RegionOffset}
use Rattle.error.specs.Refusals.{granted}
use Rattle.outline.specs.Outlines.{new_outline, check_finite}
use Rattle.region.specs.Regions.{no_region}
use Rattle.region.specs.Checks.{load_rings, region_loaded, lengths_fit}
use Rattle.region_load.specs.Loads.{no_load, load_fitting}
use Rattle.job.specs.Jobs.{job_refused, job_outline, job_region, job_rings, job_finite, job_numbers, job}
use Rattle.format.specs.JobLines.{side_fits}
use Rattle.job_run.specs.Fitting.{job_fitting}

pub refused_by : (r : Refusal) (s : Region) → s ≡ no_region → ◌≡◌ {A = RegionOffset} (record { refusal = r; shape = s; collapses = 0; divides = 0; joins = 0 }) (job_refused r)
unfolding job_refused
refused_by r s e = rw e refl

module _ (outward : Bool) (d : Float) (lengths : List ℕ) (ps : List Float) where
  loaded : lengths_fit lengths ps ≡ true → load_fitting lengths ps ≡ load_rings lengths ps
  unfolding load_fitting
  loaded e = ap (λ (t : Bool). cond t (load_rings lengths ps) (no_load Lengths 0)) e

  module _ (t : Bool) (f : t ≡ lengths_fit lengths ps) where
    pub one_ring : t ≡ true → length lengths ≡ 1 → (n : ℕ) → n ≡ get_or lengths 0 0 → (o : NewOutline) → o ≡ new_outline ps n
        → (x : RegionOffset) → x ≡ job_outline outward d o → x ≡ job_fitting outward d lengths ps
    unfolding job_fitting job_rings
    one_ring e l n m o p x q =
        yes _ _ _ _
        (yes _ _ _ _ (q ∙ ap (job_outline outward d) (p ∙ ap (new_outline ps) m)) (eq-eqb (length lengths) 1 l))
        (sym f ∙ e)

    pub more_rings : t ≡ true → (length lengths ≡ 1 → ⊥) → (s : RegionLoad) → s ≡ load_fitting lengths ps → (r : NewRegion) → r ≡ region_loaded s
        → (x : RegionOffset) → x ≡ job_region d r → x ≡ job_fitting outward d lengths ps
    unfolding job_fitting job_rings
    more_rings e l s m r p x q =
        yes _ _ _ _
        (no _ _ _ _ (q ∙ ap (job_region d) (p ∙ ap region_loaded (m ∙ loaded (sym f ∙ e)))) (ne_eqb (length lengths) 1 l))
        (sym f ∙ e)

    pub no_fit : t ≡ false → (x : RegionOffset) → x ≡ job_refused Lengths → x ≡ job_fitting outward d lengths ps
    unfolding job_fitting
    no_fit e x q = no _ _ _ _ q (sym f ∙ e)

  pub finite_yes : (r : Refusal) (x : RegionOffset) (t : Bool) → t ≡ true → t ≡ granted r → x ≡ job_fitting outward d lengths ps → x ≡ job_finite outward d lengths ps r
  unfolding job_finite job_fitting
  finite_yes r x t e g q = yes _ _ _ _ q (sym g ∙ e)

  pub finite_no : (r : Refusal) (x : RegionOffset) (t : Bool) → t ≡ false → t ≡ granted r → x ≡ job_refused r → x ≡ job_finite outward d lengths ps r
  unfolding job_finite
  finite_no r x t e g q = no _ _ _ _ q (sym g ∙ e)

  -- the definition asks whether the side fits, the code whether it does not
  fits_by : (a b c : Bool) → (a && not b) ≡ c → (not a || b) ≡ not c
  fits_by true true c h = ap not h
  fits_by true false c h = ap not h
  fits_by false b c h = ap not h

  pub job_yes : (outward && not (eqb (length lengths) 1)) ≡ false → length ps % 2 ≡ 0 → (r : Refusal) → r ≡ check_finite ps
      → (x : RegionOffset) → x ≡ job_finite outward d lengths ps r → x ≡ job outward d lengths ps
  unfolding job job_numbers side_fits
  job_yes s e r f x q = yes _ _ _ _ (yes _ _ _ _ (q ∙ ap (job_finite outward d lengths ps) f) (eq-eqb (length ps % 2) 0 e)) (fits_by _ _ _ s)

  pub job_odd : (outward && not (eqb (length lengths) 1)) ≡ false → (length ps % 2 ≡ 0 → ⊥) → (x : RegionOffset) → x ≡ job_refused Odd → x ≡ job outward d lengths ps
  unfolding job job_numbers side_fits
  job_odd s e x q = yes _ _ _ _ (no _ _ _ _ q (ne_eqb (length ps % 2) 0 e)) (fits_by _ _ _ s)

  pub job_no : (outward && not (eqb (length lengths) 1)) ≡ true → (x : RegionOffset) → x ≡ job_refused Job → x ≡ job outward d lengths ps
  unfolding job side_fits
  job_no s x q = no _ _ _ _ q (fits_by _ _ _ s)
