-- Demand 3 of what a job hands back: its bounds, and the counts are those of the front's whole list of events. Proved in
-- `proofs/Counted.antt`. Assumes nothing.
use Rattle.std.specs.Prelude.{ℕ, suc, ◌%◌, Bool, true, false, ◌&&◌, ◌≡◌, List, eqb, get_or, length, Float}
use Rattle.outline.specs.declared.NewOutline.{NewOutline}
use Rattle.region.specs.declared.NewRegion.{NewRegion}
use Rattle.region.specs.declared.RegionOffset.{RegionOffset}
use Rattle.error.specs.Refusals.{granted}
use Rattle.outline.specs.Outlines.{new_outline, check_finite}
use Rattle.offset.specs.Offsets.{outline_load}
use Rattle.offset.specs.Answers.{NoEvent, Accounts}
use Rattle.region.specs.Checks.{load_rings, region_loaded, lengths_fit}
use Rattle.region.specs.Demand.{edges_of, region_load}
use Rattle.job.specs.Jobs.{job}
use Rattle.format.specs.JobLines.{side_fits}

-- 22 of the side, then 1, 2 and 3 are answered with yes, so that the rings are asked
abbrev pub rings_asked : Bool → List ℕ → List Float → Bool
rings_asked outward lengths ps =
    side_fits outward (length lengths) && (eqb (length ps % 2) 0 && (granted (check_finite ps) && lengths_fit lengths ps))

-- the answer a to a job that comes to no offset
abbrev pub Idle : RegionOffset → Type 0
Idle a = NoEvent a.collapses a.divides a.joins

-- the answer a to a job of one ring, o being what 4 to 9 and 27 make of it
pub record OutlineJob (outward : Bool) (distance : Float) (o : NewOutline) (a : RegionOffset) : Type 0 where
  pub passed : granted o.refusal ≡ true →
      Accounts o.shape.count 1 distance (outline_load o.shape outward distance) a.refusal a.collapses a.divides a.joins
  pub refused : granted o.refusal ≡ false → Idle a

-- the answer a to a job of more rings, r being what 4 to 12 and 27 make of them
pub record RegionJob (distance : Float) (r : NewRegion) (a : RegionOffset) : Type 0 where
  pub passed : granted r.refusal ≡ true →
      Accounts (edges_of r.shape r.shape.holes) (suc r.shape.holes) distance (region_load r.shape distance) a.refusal
      a.collapses a.divides a.joins
  pub refused : granted r.refusal ≡ false → Idle a

pub record JobAccounts (outward : Bool) (distance : Float) (lengths : List ℕ) (ps : List Float) : Type 0 where
  pub one : rings_asked outward lengths ps ≡ true → eqb (length lengths) 1 ≡ true →
      OutlineJob outward distance (new_outline ps (get_or lengths 0 0)) (job outward distance lengths ps)
  pub more : rings_asked outward lengths ps ≡ true → eqb (length lengths) 1 ≡ false →
      RegionJob distance (region_loaded (load_rings lengths ps)) (job outward distance lengths ps)
  pub none : rings_asked outward lengths ps ≡ false → Idle (job outward distance lengths ps)

abbrev pub JobsCounted : Type 0
JobsCounted = (outward : Bool) (distance : Float) (lengths : List ℕ) (ps : List Float) → JobAccounts outward distance lengths ps
