-- Demand 3 of what the functions for C hand back: its bounds, and the counts are those of the front's whole list of events. Proved in
-- `proofs/Counted.antt`. Assumes nothing.
use Rattle.std.specs.Prelude.{ℕ, suc, ◌+◌, ◌*◌, ◌≤◌, ◌≡◌, true, false, List, Float}
use Rattle.error.specs.Refusals.{granted}
use Rattle.front.specs.declared.Loaded.{Loaded}
use Rattle.offset.specs.Answers.{NoEvent, Counted, Accounts}
use Rattle.region.specs.declared.NewRegion.{NewRegion}
use Rattle.region.specs.declared.InsetWritten.{InsetWritten}
use Rattle.region.specs.Checks.{region}
use Rattle.region.specs.Demand.{edges_of, region_load}
use Rattle.told.specs.declared.LwRegionOffset.{LwRegionOffset}
use Rattle.region_c.specs.Told.{stored_region, inset_made, lw_region_inset, lw_stored_region_inset}

-- `AnswerDemand`, of a refusal that is its number and what it carries first
pub record ToldDemand (n r : ℕ) (refusal first c e j : ℕ) : Type 0 where
  pub counts : c + e + 2 * r ≤ n + 3 * j
  pub most : c + e + j ≤ 387
  pub unfinished : refusal ≡ 18 → 387 + 2 * r ≤ n + 4 * j
  pub carried : refusal ≡ 18 → first ≡ 387

pub record ToldAccounts (n r : ℕ) (distance : Float) (l : Loaded) (refusal first c e j : ℕ) : Type 0 where
  pub bounds : ToldDemand n r refusal first c e j
  pub counted : Counted distance l c e j

-- the answer w to the inset of r, a region that was made or refused, to lent output
pub record MadeAccounts (distance : Float) (r : NewRegion) (w : InsetWritten) : Type 0 where
  pub passed : granted r.refusal ≡ true →
      Accounts (edges_of r.shape r.shape.holes) (suc r.shape.holes) distance (region_load r.shape distance) w.refusal
      w.collapses w.divides w.joins
  pub refused : granted r.refusal ≡ false → NoEvent w.collapses w.divides w.joins

-- the same, as C is told it
pub record RegionTold (distance : Float) (r : NewRegion) (a : LwRegionOffset) : Type 0 where
  pub passed : granted r.refusal ≡ true →
      ToldAccounts (edges_of r.shape r.shape.holes) (suc r.shape.holes) distance (region_load r.shape distance) a.refusal
      a.first a.collapses a.divides a.joins
  pub refused : granted r.refusal ≡ false → NoEvent a.collapses a.divides a.joins

-- `inset_into`
abbrev pub InsetMadeAccounts : Type 0
InsetMadeAccounts =
    (lengths : List ℕ) (ps : List Float) (distance : Float) (out : List Float) →
    MadeAccounts distance (region lengths ps) (inset_made (region lengths ps) distance out)

-- `stored_inset_into`
abbrev pub StoredMadeAccounts : Type 0
StoredMadeAccounts =
    (lengths : List ℕ) (ps : List Float) (distance : Float) (out : List Float) →
    MadeAccounts distance (stored_region lengths ps) (inset_made (stored_region lengths ps) distance out)

-- `lw_region_inset`
abbrev pub RegionInsetTold : Type 0
RegionInsetTold =
    (lengths : List ℕ) (ps : List Float) (distance : Float) (out : List Float) →
    RegionTold distance (region lengths ps) (lw_region_inset lengths ps distance out)

-- `lw_stored_region_inset`
abbrev pub StoredInsetTold : Type 0
StoredInsetTold =
    (lengths : List ℕ) (ps : List Float) (distance : Float) (out : List Float) →
    RegionTold distance (stored_region lengths ps) (lw_stored_region_inset lengths ps distance out)
