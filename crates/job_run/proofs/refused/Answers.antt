-- `job_run::refused` meets its contract. Assumes nothing.
use Rattle.job_run.proofs.Rings.{refused_by}
use Rattle.job_run.proofs.refused.Goals as goal

pub returns : goal.returns
returns c = refused_by _ _ c.no_region.ensures
