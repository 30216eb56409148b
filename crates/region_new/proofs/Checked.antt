-- A region of loaded rings: the questions of its check in their order. Assumes nothing.
use Prim.Native.Nat.{ℕ}
use mathlib.Core.Path.{◌≡◌, refl, sym, ap, ◌∙◌, subst}
use mathlib.Core.Bool.{Bool, true, false, cond}
use mathlib.Core.List.{List}
use lib.Ieee.{Float}
use Rattle.error.specs.declared.Refusal.{Refusal}
use Rattle.error.specs.declared.Refusal.TheVariants.{Lengths}
use Rattle.error.specs.Refusals.{values, number, granted}
use Rattle.region.specs.declared.Region.{Region}
use Rattle.region.specs.declared.RegionLoad.{RegionLoad}
use Rattle.region.specs.declared.NewRegion.{NewRegion}
use Rattle.region.specs.Checks.{region_refused, load_rings, region_loaded, lengths_fit, region_finite}
use Rattle.region.specs.Answers.{ProperNewRegion}
use Rattle.region.specs.Regions.{region_of}
use Rattle.region_load.specs.Loads.{no_load, load_fitting}

-- a region is what it is made of
pub whole : (r : Region) → region_of r.outer.points r.outer.count r.points r.counts r.holes ≡ r
unfolding region_of
whole r = refl

-- question 3 is asked while the rings are loaded
fits_or : (b : Bool) (s : RegionLoad) → region_loaded (cond b s (no_load Lengths 0)) ≡ cond b (region_loaded s) (region_refused Lengths)
unfolding region_loaded no_load granted number values
fits_or true s = refl
fits_or false s = refl

module _ (lengths : List ℕ) (ps : List Float) (r : Refusal) (x : NewRegion) where
  pub by_loading : granted r ≡ true → (s : RegionLoad) → s ≡ load_fitting lengths ps → x ≡ region_loaded s → x ≡ region_finite lengths ps r
  unfolding region_finite load_fitting
  by_loading g s e f = rw g (f ∙ ap region_loaded e ∙ fits_or (lengths_fit lengths ps) (load_rings lengths ps))

-- what is accepted passes 21 again
pub proper_as : (x y : NewRegion) → x ≡ y → ProperNewRegion y → ProperNewRegion x
proper_as x y e h = subst ProperNewRegion (sym e) h
