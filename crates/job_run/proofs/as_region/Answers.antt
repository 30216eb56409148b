-- `job_run::as_region` meets its contract. Assumes nothing.
use mathlib.Core.Path.{refl}
use Rattle.region.specs.Regions
use Rattle.job.specs.Jobs
use Rattle.job_run.proofs.as_region.Goals as goal

pub returns : goal.returns
unfolding Jobs.as_region Regions.with_outer Regions.no_region
returns c = refl
