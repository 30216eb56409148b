-- The bounds and the counts pass on to what C is told. Assumes nothing.
use Prim.Native.Nat.{ℕ, suc}
use mathlib.Core.Path.{◌≡◌, refl, ap}
use mathlib.Core.Bool.{true}
use mathlib.Core.List.{List}
use lib.ListN.{get_or}
use lib.Ieee.{Float}
use Rattle.error.specs.declared.Refusal.{Refusal}
use Rattle.error.specs.Refusals.{granted, number}
use Rattle.error.specs.Carries.{told, carried_of, carried}
use Rattle.front.specs.declared.Loaded.{Loaded}
use Rattle.offset.specs.Answers.{AnswerDemand, Accounts}
use Rattle.region.specs.declared.Region.{Region}
use Rattle.region.specs.declared.NewRegion.{NewRegion}
use Rattle.region.specs.declared.InsetWritten.{InsetWritten}
use Rattle.region.specs.Checks.{proper_region, region}
use Rattle.region.specs.Demand.{edges_of, region_load}
use Rattle.region.proofs.Loaded.{region_again}
use Rattle.region.proofs.Counted.{inset_write_accounts}
use Rattle.told.specs.Told.{inset_answer}
use Rattle.region_stored.proofs.Again.{stored_again}
use Rattle.region_c.specs.Told.{stored_region, told_inset, inset_refused, inset_made}
use Rattle.region_c.specs.Counted.{ToldDemand, ToldAccounts, MadeAccounts, RegionTold, InsetMadeAccounts, RegionInsetTold}
use Rattle.region_c.specs.Counted.{StoredMadeAccounts, StoredInsetTold}

pub told_demand : (n r : ℕ) (u : Refusal) (c e j : ℕ) → AnswerDemand n r u c e j → ToldDemand n r (carried u).question (carried u).first c e j
unfolding carried carried_of told number
told_demand n r u c e j h = record {
  counts = h.counts;
  most = h.most;
  unfinished = h.unfinished;
  carried = λ q. ap (λ (w : List ℕ). get_or w 0 0) (h.carried q);
}

pub told_accounts : (n r : ℕ) (d : Float) (l : Loaded) (u : Refusal) (c e j : ℕ) → Accounts n r d l u c e j
    → ToldAccounts n r d l (carried u).question (carried u).first c e j
told_accounts n r d l u c e j h = record { bounds = told_demand n r u c e j h.bounds; counted = h.counted }

made : (r : NewRegion) (d : Float) (out : List Float) → (granted r.refusal ≡ true → proper_region r.shape ≡ true) → MadeAccounts d r (inset_made r d out)
unfolding inset_made inset_refused
made r d out p = record {
  passed = λ g. rw g ((inset_write_accounts r.shape d out).passed (p g));
  refused = λ g. rw g (record { collapses = refl; divides = refl; joins = refl });
}

pub inset_made_accounts : InsetMadeAccounts
inset_made_accounts lengths ps d out = made (region lengths ps) d out (region_again.loaded lengths ps).proper

pub stored_made_accounts : StoredMadeAccounts
stored_made_accounts lengths ps d out = made (stored_region lengths ps) d out (stored_again lengths ps).proper

told_made : (r : NewRegion) (d : Float) (w : InsetWritten) → MadeAccounts d r w → RegionTold d r (told_inset w)
unfolding told_inset inset_answer
told_made r d w h =
    let s : Region = r.shape in
    record {
      passed = λ g. told_accounts (edges_of s s.holes) (suc s.holes) d (region_load s d) w.refusal w.collapses w.divides w.joins (h.passed g);
      refused = h.refused;
    }

pub region_inset_told : RegionInsetTold
region_inset_told lengths ps d out = told_made (region lengths ps) d (inset_made (region lengths ps) d out) (inset_made_accounts lengths ps d out)

pub stored_inset_told : StoredInsetTold
stored_inset_told lengths ps d out =
    told_made (stored_region lengths ps) d (inset_made (stored_region lengths ps) d out) (stored_made_accounts lengths ps d out)
