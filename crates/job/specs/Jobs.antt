-- A job on numbers: a side, a distance, the ring lengths and the coordinates. With one ring it is an outline's offset, and with more a
-- region's inset. Question 22 of the side is asked first, then 1, 2 and 3, then 4 to 9 and 27 ring by ring and 10 to 12, then 13 to 19 by
-- the offset.
-- What a `let` binds is computed only where it is read, so no offset is computed for a job that is refused before it. Assumes nothing.
use Rattle.std.specs.Prelude.{ℕ, ◌%◌, Bool, false, cond, ◌≡◌, List, eqb, get_or, length, Float}
use Rattle.error.specs.declared.Refusal.{Refusal}
use Rattle.error.specs.declared.Refusal.TheVariants.{Job, Lengths, Odd}
use Rattle.outline.specs.declared.NewOutline.{NewOutline}
use Rattle.offset.specs.declared.Offset.{Offset}
use Rattle.region.specs.declared.NewRegion.{NewRegion}
use Rattle.region.specs.declared.RegionOffset.{RegionOffset}
use Rattle.error.specs.Refusals.{granted}
use Rattle.outline.specs.Outlines.{new_outline, check_finite}
use Rattle.offset.specs.Offsets.{offset}
use Rattle.region.specs.Regions.{no_region, with_outer}
use Rattle.region.specs.Checks.{load_rings, region_loaded, lengths_fit}
use Rattle.region.specs.Insets.{region_inset}
use Rattle.format.specs.JobLines.{side_fits}

-- a refused job: "The shape beside it is empty"
unfoldable pub job_refused : Refusal → RegionOffset
job_refused r = record { refusal = r; shape = no_region; collapses = 0; divides = 0; joins = 0 }

-- an outline's offset, as a region without holes
unfoldable pub as_region : Offset → RegionOffset
as_region r =
    record {
      refusal = r.refusal;
      shape = with_outer no_region r.shape;
      collapses = r.collapses;
      divides = r.divides;
      joins = r.joins;
    }

-- 13 to 19 of an outline that has passed 4 to 9 and 27
unfoldable pub job_outline : Bool → Float → NewOutline → RegionOffset
job_outline outward d o =
    let given = as_region (offset o.shape outward d) in
    cond (granted o.refusal) given (job_refused o.refusal)

-- 13 to 19 of a region that has passed 4 to 12 and 27
unfoldable pub job_region : Float → NewRegion → RegionOffset
job_region d r =
    let given = region_inset r.shape d in
    cond (granted r.refusal) given (job_refused r.refusal)

-- "With r = 1 the reference is `Polygon`"
unfoldable pub job_rings : Bool → Float → List ℕ → List Float → RegionOffset
job_rings outward d lengths ps =
    let one = job_outline outward d (new_outline ps (get_or lengths 0 0)) in
    let more = job_region d (region_loaded (load_rings lengths ps)) in
    cond (eqb (length lengths) 1) one more

-- question 3: do the ring lengths fit the points?
unfoldable pub job_finite : Bool → Float → List ℕ → List Float → Refusal → RegionOffset
job_finite outward d lengths ps r =
    let given = job_rings outward d lengths ps in
    let fitting = cond (lengths_fit lengths ps) given (job_refused Lengths) in
    cond (granted r) fitting (job_refused r)

-- question 1: is the count of numbers even? Then 2: is every number finite? The distance is not among them.
unfoldable pub job_numbers : Bool → Float → List ℕ → List Float → RegionOffset
job_numbers outward d lengths ps =
    let given = job_finite outward d lengths ps (check_finite ps) in
    cond (eqb (length ps % 2) 0) given (job_refused Odd)

unfoldable pub job : Bool → Float → List ℕ → List Float → RegionOffset
job outward d lengths ps =
    let given = job_numbers outward d lengths ps in
    cond (side_fits outward (length lengths)) given (job_refused Job)

-- ---- what is to hold

-- a refused job hands back the empty shape
abbrev pub RefusedEmpty : Type 0
RefusedEmpty =
    (outward : Bool) (d : Float) (lengths : List ℕ) (ps : List Float)
    → granted (job outward d lengths ps).refusal ≡ false → (job outward d lengths ps).shape ≡ no_region

-- opens every definition above, for a proof that computes with all of them
unfoldable pub open_jobs : Unit {0}
unfolding job_refused as_region job_outline job_region job_rings job_finite job_numbers job
open_jobs = tt
