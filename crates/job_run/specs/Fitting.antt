-- A job whose numbers are even in count and finite: question 3, then its rings. Assumes nothing.
use Rattle.std.specs.Prelude.{ℕ, Bool, cond, List, Float}
use Rattle.error.specs.declared.Refusal.TheVariants.{Lengths}
use Rattle.region.specs.declared.RegionOffset.{RegionOffset}
use Rattle.region.specs.Checks.{lengths_fit}
use Rattle.job.specs.Jobs.{job_refused, job_rings}

unfoldable pub job_fitting : Bool → Float → List ℕ → List Float → RegionOffset
job_fitting outward d lengths ps =
    let given = job_rings outward d lengths ps in
    cond (lengths_fit lengths ps) given (job_refused Lengths)

-- opens every definition above, for a proof that computes with all of them
unfoldable pub open_fitting : Unit {0}
unfolding job_fitting
open_fitting = tt
